-- `pacing::debt_after` meets its contract: each way by its test. Assumes nothing.
use native.Mathlib.Omega.{arith}
use mathlib.Core.Path.{refl}
use Rattle.base.specs.Ways.{lt_yes, lt_no}
use Rattle.pacing.specs.Pacing.{debt_after}
use Rattle.pacing.proofs.debt_after.Goals as goal

pub returns-then-debt-lt9223372036854776832 : goal.returns-then-debt-lt9223372036854776832
unfolding debt_after
returns-then-debt-lt9223372036854776832 c = lt_yes _ _ _ _ _ (omega arith) refl

pub returns-else-debt-lt9223372036854776832 : goal.returns-else-debt-lt9223372036854776832
unfolding debt_after
returns-else-debt-lt9223372036854776832 c = lt_no _ _ _ _ _ (omega arith) refl
