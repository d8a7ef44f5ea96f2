-- `value::write_value` meets its contract: from what its callees promise. Assumes nothing.
use Rattle.value.proofs.write_value.Goals as goal

pub returns : goal.returns
returns c = rw (← c.tag_of.ensures, ← c.low_of.ensures, ← c.high_of.ensures) c.put3.ensures
