-- `step_engine::sieddesan_full_gc` meets its contract: each way by its test. Assumes nothing.
use Rattle.told.specs.Answers.{lent_short, lent_told}
use Rattle.step_engine.proofs.sieddesan_full_gc.Goals as goal

pub returns-then-out-lt6 : goal.returns-then-out-lt6
returns-then-out-lt6 c = lent_short _ _ _ _ _ c.if-out-lt6.true

pub returns : goal.returns
returns c = lent_told _ _ _ _ _ _ _ _ _ c.if-out-lt6.false c.full_gc-a.ensures c.tell.ensures
