-- `settings::lower_threshold` meets its contract: each way by its test. Assumes nothing.
use mathlib.Core.Path.{refl}
use native.Mathlib.Omega.{arith}
use Rattle.base.specs.Ways.{le_no, le_yes}
use Rattle.settings.specs.Settings.{lowered}
use Rattle.settings.proofs.lower_threshold.Goals as goal

pub returns-then-limit-get64 : goal.returns-then-limit-get64
unfolding lowered
returns-then-limit-get64 c = rw (← c.get64.ensures) (le_no _ _ _ _ _ (omega (arith, c.if-limit-get64.true)) c.put64.ensures)

pub returns-else-limit-get64 : goal.returns-else-limit-get64
unfolding lowered
returns-else-limit-get64 c = rw (← c.get64.ensures) (le_yes _ _ _ _ _ (omega (arith, c.if-limit-get64.false)) refl)
