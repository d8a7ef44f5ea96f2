-- `value::read_value` meets its contract: from what its callees promise. Assumes nothing.
use Rattle.value.proofs.read_value.Goals as goal

pub returns : goal.returns
returns c = rw (← c.get.ensures, ← c.get-2.ensures, ← c.get-3.ensures) c.value_of.ensures
