-- `main_engine::tell_setting` meets its contract: each way by its test. Assumes nothing.
use Rattle.main_engine.specs.Exports.{setting_told}
use Rattle.main_engine.proofs.tell_setting.Goals as goal

pub returns-in-Ok : goal.returns-in-Ok
unfolding setting_told
returns-in-Ok c = rw (c.in-Ok.is, ← c.put64.ensures)

pub returns-in-Err : goal.returns-in-Err
unfolding setting_told
returns-in-Err c = rw (c.in-Err.is, c.number.ensures)
