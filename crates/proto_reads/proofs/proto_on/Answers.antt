-- `proto_reads::proto_on` meets its contract: each way by its test. Assumes nothing.
use mathlib.Core.Path.{refl}
use native.Mathlib.Omega.{arith}
use Rattle.base.specs.Ways.{le_yes, le_no}
use Rattle.proto_reads.specs.ProtoReads.{proto_on}
use Rattle.proto_reads.proofs.proto_on.Goals as goal

pub returns-then-protos_used-k : goal.returns-then-protos_used-k
unfolding proto_on
returns-then-protos_used-k c = le_yes _ _ _ _ _ (omega arith) refl

pub returns : goal.returns
unfolding proto_on
returns c = rw (← c.wide-k.ensures.0) (le_no _ _ _ _ _ (omega arith) c.proto_in.ensures)
