-- `value::put_pair` meets its contract: from what its callees promise. Assumes nothing.
use Rattle.value.proofs.put_pair.Goals as goal

pub returns : goal.returns
returns c = rw (← c.put.ensures) c.put-2.ensures
