-- `step_engine::sieddesan_gc_step` meets its contract: each way by its test. Assumes nothing.
use mir.Syntax.{w64}
use mir.ValLaws.{to_z-of_z}
use Rattle.told.specs.Answers.{lent_short, lent_told}
use Rattle.step_engine.proofs.sieddesan_gc_step.Goals as goal

pub returns-then-out-lt6 : goal.returns-then-out-lt6
returns-then-out-lt6 c = lent_short _ _ _ _ _ c.if-out-lt6.true

pub returns : goal.returns
returns c = lent_told _ _ _ _ _ _ _ _ _ c.if-out-lt6.false (rw (to_z-of_z w64 c.args.budget c.ranges.budget) at c.gc_step-a.ensures) c.tell.ensures
