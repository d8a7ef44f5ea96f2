-- `pacing::step_threshold` meets its contract: each way by its test. Assumes nothing.
use native.Mathlib.Omega.{arith}
use mathlib.Core.Path.{refl}
use Rattle.base.specs.Ways.{lt_yes, lt_no}
use Rattle.pacing.specs.Pacing.{step_threshold}
use Rattle.pacing.proofs.step_threshold.Goals as goal

pub returns-then-debt-lt9223372036854776832 : goal.returns-then-debt-lt9223372036854776832
unfolding step_threshold
returns-then-debt-lt9223372036854776832 c = lt_yes _ _ _ _ _ (omega arith) refl

pub returns-else-debt-lt9223372036854776832 : goal.returns-else-debt-lt9223372036854776832
unfolding step_threshold
returns-else-debt-lt9223372036854776832 c = lt_no _ _ _ _ _ (omega arith) refl
