-- `run_reads::held_upvalue` meets its contract: each way by its test. Assumes nothing.
use mathlib.Core.Path.{refl}
use native.Mathlib.Omega.{arith}
use Rattle.base.specs.Ways.{le_yes, le_no}
use Rattle.run_reads.proofs.held_upvalue.Goals as goal

pub returns-then-closure_count-k : goal.returns-then-closure_count-k
returns-then-closure_count-k c = le_yes _ _ _ _ _ (omega arith) refl

pub returns-then-is_rust : goal.returns-then-is_rust
returns-then-is_rust c = le_no _ _ _ _ _ (omega arith) (rw (← c.is_rust.ensures, c.if-is_rust.true))

pub returns : goal.returns
returns c = le_no _ _ _ _ _ (omega arith) (rw (← c.is_rust.ensures, c.if-is_rust.false) (rw (c.closure_upvalue.ensures, c.wide-k.ensures.0)))
