-- `main_record::prototypes::proto_nested` meets its contract: each way by its test. Assumes nothing.
use mathlib.Core.Path.{refl}
use native.Mathlib.Omega.{arith}
use Rattle.base.specs.Ways.{lt_yes, lt_no}
use Rattle.main_record.specs.Prototypes.{proto_nested}
use Rattle.main_record.proofs.prototypes.proto_nested.Goals as goal

pub returns-then-n-protos_used : goal.returns-then-n-protos_used
unfolding proto_nested
returns-then-n-protos_used c = (lt_yes _ _ _ _ _ (omega arith) (rw c.protos_at.ensures at c.count_at.ensures.0), omega arith, omega arith)

pub returns-else-n-protos_used : goal.returns-else-n-protos_used
unfolding proto_nested
returns-else-n-protos_used c = (lt_no _ _ _ _ _ (omega arith) refl, omega arith, omega arith)
