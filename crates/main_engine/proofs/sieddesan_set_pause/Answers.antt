-- `main_engine::sieddesan_set_pause` meets its contract: each way by its test. Assumes nothing.
use Rattle.told.specs.Answers.{lent_short, lent_told}
use Rattle.main_engine.proofs.sieddesan_set_pause.Goals as goal

pub returns-then-out-lt2 : goal.returns-then-out-lt2
returns-then-out-lt2 c = lent_short _ _ _ _ _ c.if-out-lt2.true

pub returns : goal.returns
returns c = lent_told _ _ _ _ _ _ _ _ _ c.if-out-lt2.false c.set_pause-a.ensures c.tell_setting.ensures
