-- `proto_reads::proto_in` meets its contract: each way by its test. Assumes nothing.
use mathlib.Core.Path.{refl}
use native.Mathlib.Omega.{arith}
use Rattle.base.specs.Ways.{le_yes, le_no}
use Rattle.proto_reads.proofs.proto_in.Goals as goal

pub returns-then-proto_constants-k : goal.returns-then-proto_constants-k
returns-then-proto_constants-k c = rw c.in-Constant.is (le_yes _ _ _ _ _ (omega arith) refl)

pub returns-then-proto_nested-k : goal.returns-then-proto_nested-k
returns-then-proto_nested-k c = rw c.in-Child.is (le_yes _ _ _ _ _ (omega arith) refl)

pub returns-in-Constants : goal.returns-in-Constants
returns-in-Constants c = rw (c.in-Constants.is, c.proto_constants.ensures.0)

pub returns-in-Nested : goal.returns-in-Nested
returns-in-Nested c = rw (c.in-Nested.is, c.proto_nested.ensures.0)

pub returns-in-Parent : goal.returns-in-Parent
returns-in-Parent c = rw (c.in-Parent.is, c.proto_parent.ensures.0)

pub returns-else-proto_constants-k : goal.returns-else-proto_constants-k
returns-else-proto_constants-k c = rw c.in-Constant.is (le_no _ _ _ _ _ (omega arith) (rw (c.proto_constant.ensures, c.wide-k.ensures.0)))

pub returns-else-proto_nested-k : goal.returns-else-proto_nested-k
returns-else-proto_nested-k c = rw c.in-Child.is (le_no _ _ _ _ _ (omega arith) (rw (c.proto_child.ensures.0, c.wide-k-in-Child.ensures.0)))
