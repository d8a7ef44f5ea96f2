-- `told::tell_value` meets its contract: each way by its test. Assumes nothing.
use Rattle.told.specs.Answers.{got_told}
use Rattle.told.proofs.tell_value.Goals as goal

pub returns-in-Ok : goal.returns-in-Ok
unfolding got_told
returns-in-Ok c = rw (c.in-Ok.is, ← c.write_value.ensures)

pub returns-in-Err : goal.returns-in-Err
unfolding got_told
returns-in-Err c = rw (c.in-Err.is, c.number.ensures)
