-- `run_record::closures::closure_extent` meets its contract: from what its callees promise. Assumes nothing.
use native.Mathlib.Omega.{arith}
use Rattle.run_record.proofs.closures.closure_extent.Goals as goal

pub returns-then-rust : goal.returns-then-rust
returns-then-rust c = (rw c.if-rust.true, omega arith)

pub returns-else-rust : goal.returns-else-rust
returns-else-rust c = (rw c.if-rust.false, omega arith)
