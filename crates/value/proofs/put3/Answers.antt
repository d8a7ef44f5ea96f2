-- `value::put3` meets its contract: from what its callees promise. Assumes nothing.
use Rattle.value.proofs.put3.Goals as goal

pub returns : goal.returns
returns c = rw (← c.put.ensures, ← c.put-2.ensures) c.put-3.ensures
