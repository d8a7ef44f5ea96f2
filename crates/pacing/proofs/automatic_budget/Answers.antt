-- `pacing::automatic_budget` meets its contract: each way by its test. Assumes nothing.
use native.Mathlib.Omega.{arith}
use mathlib.Core.Path.{refl}
use Rattle.base.specs.Ways.{eq_yes, eq_no}
use Rattle.pacing.specs.Pacing.{automatic_budget}
use Rattle.pacing.proofs.automatic_budget.Goals as goal

pub returns-then-stepmul-eq0 : goal.returns-then-stepmul-eq0
unfolding automatic_budget
returns-then-stepmul-eq0 c = eq_yes _ _ _ _ _ (omega arith) refl

pub returns-else-stepmul-eq0 : goal.returns-else-stepmul-eq0
unfolding automatic_budget
returns-else-stepmul-eq0 c = eq_no _ _ _ _ _ (λ e. omega arith) refl
