-- `run_walk::closures::closure_cost` meets its contract: each way by its test. Assumes nothing.
use native.Mathlib.Omega.{arith}
use Rattle.run_walk.specs.Closures.{closure_cost}
use Rattle.run_walk.proofs.closures.closure_cost.Goals as goal

pub closure_count-k-requires : goal.closure_count-k-requires
closure_count-k-requires c = c.requires

pub is_rust-requires : goal.is_rust-requires
is_rust-requires c = c.requires

pub overflow_mul-result : goal.overflow_mul-result
overflow_mul-result c = omega (arith, c.closure_count-k.ensures.1)

pub overflow_add-result : goal.overflow_add-result
overflow_add-result c = omega (arith, c.closure_count-k.ensures.1)

pub returns-then-is_rust : goal.returns-then-is_rust
unfolding closure_cost
returns-then-is_rust c = (rw (← c.is_rust.ensures, c.if-is_rust.true, ← c.closure_count-k.ensures.0), omega (arith, c.closure_count-k.ensures.1))

pub overflow_mul-result-else-is_rust : goal.overflow_mul-result-else-is_rust
overflow_mul-result-else-is_rust c = omega (arith, c.closure_count-k.ensures.1)

pub overflow_add-result-else-is_rust : goal.overflow_add-result-else-is_rust
overflow_add-result-else-is_rust c = omega (arith, c.closure_count-k.ensures.1)

pub returns-else-is_rust : goal.returns-else-is_rust
unfolding closure_cost
returns-else-is_rust c = (rw (← c.is_rust.ensures, c.if-is_rust.false, ← c.closure_count-k.ensures.0), omega (arith, c.closure_count-k.ensures.1))
