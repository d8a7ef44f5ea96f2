-- `step_codes::tell` meets its contract: the callees' equations joined. Assumes nothing.
use Rattle.step_codes.specs.Codes.{told}
use Rattle.step_codes.proofs.tell.Goals as goal

pub returns-in-Ok-Stepped : goal.returns-in-Ok-Stepped
unfolding told
returns-in-Ok-Stepped c = rw (c.in-Ok-Stepped.is, rw c.in-Ok-Stepped.is at c.in-Ok-Stepped.field-0-is, ← c.put_six.ensures)

pub returns-in-Ok-Unfinished : goal.returns-in-Ok-Unfinished
unfolding told
returns-in-Ok-Unfinished c = rw (c.in-Ok-Unfinished.is, rw c.in-Ok-Unfinished.is at c.in-Ok-Unfinished.field-0-is, ← c.put_six-in-Ok-Unfinished.ensures)

pub returns-in-Ok-Ended : goal.returns-in-Ok-Ended
unfolding told
returns-in-Ok-Ended c = rw (c.in-Ok-Ended.is, rw c.in-Ok-Ended.is at c.in-Ok-Ended.field-0-is, ← c.put_six-in-Ok-Ended.ensures)

pub returns-in-Ok-Passed : goal.returns-in-Ok-Passed
unfolding told
returns-in-Ok-Passed c = rw (c.in-Ok-Passed.is, rw c.in-Ok-Passed.is at c.in-Ok-Passed.field-0-is, ← c.put_six-in-Ok-Passed.ensures)

pub returns-in-Ok-Handed : goal.returns-in-Ok-Handed
unfolding told
returns-in-Ok-Handed c = rw (c.in-Ok-Handed.is, rw c.in-Ok-Handed.is at c.in-Ok-Handed.field-0-is, ← c.put_six-in-Ok-Handed.ensures)

pub returns-in-Ok-Busy : goal.returns-in-Ok-Busy
unfolding told
returns-in-Ok-Busy c = rw (c.in-Ok-Busy.is, rw c.in-Ok-Busy.is at c.in-Ok-Busy.field-0-is, ← c.put_six-in-Ok-Busy.ensures)

pub returns-in-Ok-Failed : goal.returns-in-Ok-Failed
unfolding told
returns-in-Ok-Failed c = rw (c.in-Ok-Failed.is, rw c.in-Ok-Failed.is at c.in-Ok-Failed.field-0-is, ← c.put_six-in-Ok-Failed.ensures)

pub returns-in-Err : goal.returns-in-Err
unfolding told
returns-in-Err c = rw (c.in-Err.is, c.number.ensures)
