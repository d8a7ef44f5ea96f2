-- `mark::other_white` meets its contract: each way by its test. Assumes nothing.
use mathlib.Core.Path.{refl}
use native.Mathlib.Omega.{arith}
use Rattle.base.specs.Ways.{eq_yes, eq_no}
use Rattle.mark.proofs.other_white.Goals as goal

pub returns-then-c-eq1 : goal.returns-then-c-eq1
returns-then-c-eq1 c = eq_yes _ _ _ _ _ (omega arith) refl

pub returns-else-c-eq1 : goal.returns-else-c-eq1
returns-else-c-eq1 c = eq_no _ _ _ _ _ (λ e. omega arith) refl
