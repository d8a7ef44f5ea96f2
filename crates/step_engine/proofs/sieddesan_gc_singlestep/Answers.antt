-- `step_engine::sieddesan_gc_singlestep` meets its contract: each way by its test. Assumes nothing.
use Rattle.told.specs.Answers.{lent_short, lent_told}
use Rattle.step_engine.proofs.sieddesan_gc_singlestep.Goals as goal

pub returns-then-out-lt6 : goal.returns-then-out-lt6
returns-then-out-lt6 c = lent_short _ _ _ _ _ c.if-out-lt6.true

pub returns : goal.returns
returns c = lent_told _ _ _ _ _ _ _ _ _ c.if-out-lt6.false c.gc_singlestep-a.ensures c.tell.ensures
