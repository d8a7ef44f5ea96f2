-- `script_bytes::keep` meets its contract: by the two cases of the room. Assumes nothing.
use native.Mathlib.Omega.{arith}
use mathlib.Core.Path.{refl}
use Rattle.base.specs.Ways.{lt_yes, lt_no}
use Rattle.script_bytes.specs.Bytes.{kept}
use Rattle.script_bytes.proofs.keep.Goals as goal

pub returns-then-n-out : goal.returns-then-n-out
unfolding kept
returns-then-n-out c = lt_yes _ _ _ _ _ (omega arith) refl

pub returns-else-n-out : goal.returns-else-n-out
unfolding kept
returns-else-n-out c = lt_no _ _ _ _ _ (omega arith) refl
