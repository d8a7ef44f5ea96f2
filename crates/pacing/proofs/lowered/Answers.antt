-- `pacing::lowered` meets its contract: each way by its test. Assumes nothing.
use native.Mathlib.Omega.{arith}
use mathlib.Core.Path.{refl}
use Rattle.base.specs.Ways.{lt_yes, lt_no}
use Rattle.pacing.specs.Pacing.{lowered}
use Rattle.pacing.proofs.lowered.Goals as goal

pub returns-then-estimate-gt100 : goal.returns-then-estimate-gt100
unfolding lowered
returns-then-estimate-gt100 c = lt_yes _ _ _ _ _ (omega arith) refl

pub returns-else-estimate-gt100 : goal.returns-else-estimate-gt100
unfolding lowered
returns-else-estimate-gt100 c = lt_no _ _ _ _ _ (omega arith) refl
