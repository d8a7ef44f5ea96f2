-- `lists::write_item` meets its contract: from what its callees promise. Assumes nothing.
use Rattle.lists.proofs.write_item.Goals as goal

pub returns : goal.returns
returns c = rw (← c.kind_of.ensures, ← c.index_of.ensures, ← c.generation_of.ensures) c.put3.ensures
