-- `lists::read_item` meets its contract: from what its callees promise. Assumes nothing.
use Rattle.lists.proofs.read_item.Goals as goal

pub returns : goal.returns
returns c = rw (← c.get.ensures, ← c.get-2.ensures, ← c.get-3.ensures) c.item_of.ensures
