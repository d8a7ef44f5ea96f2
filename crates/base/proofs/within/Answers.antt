-- `base::within` meets its contract: each way by its test. Assumes nothing.
use mathlib.Core.Path.{refl}
use native.Mathlib.Omega.{arith}
use Rattle.base.specs.Ways.{le_yes, le_no}
use Rattle.base.proofs.within.Goals as goal

pub returns-then-n-most : goal.returns-then-n-most
returns-then-n-most c = (le_yes _ _ _ _ _ (omega arith) (omega arith), omega arith)

pub returns-else-n-most : goal.returns-else-n-most
returns-else-n-most c = (le_no _ _ _ _ _ (omega arith) refl, omega arith)
