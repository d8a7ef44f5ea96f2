-- `audit_engine::tell` meets its contract: by the answers. Assumes nothing.
use Rattle.audit_engine.specs.Exports.{told}
use Rattle.audit_engine.proofs.tell.Goals as goal

pub returns-in-Ok-true : goal.returns-in-Ok-true
unfolding told
returns-in-Ok-true c = rw (c.in-Ok-true.is, c.in-Ok-true.field-0-test, ← c.put.ensures)

pub returns-in-Ok-false : goal.returns-in-Ok-false
unfolding told
returns-in-Ok-false c = rw (c.in-Ok-false.is, c.in-Ok-false.field-0-test, ← c.put-in-Ok-false.ensures)

pub returns-in-Err : goal.returns-in-Err
unfolding told
returns-in-Err c = rw (c.in-Err.is, c.number.ensures)
