-- `run_walk::closures::mark_rust` meets its contract: the callees' equations joined. Assumes nothing.
use native.Mathlib.Omega.{arith}
use Rattle.run_walk.specs.Closures.{mark_rust}
use Rattle.run_walk.proofs.closures.mark_rust.Goals as goal

pub closure_count-k-requires : goal.closure_count-k-requires
closure_count-k-requires c = c.requires.p_in_bounds

pub overflow_add-p : goal.overflow_add-p
overflow_add-p c = omega (arith, c.requires.p_in_bounds)

pub mark_values-requires : goal.mark_values-requires
mark_values-requires c = record { l_in_bounds = c.requires.l_in_bounds; n_in_bounds = omega (arith, c.requires.p_in_bounds, c.closure_count-k.ensures.1) }

pub shape_of-w : goal.shape_of-w
shape_of-w c = c.mark_values.auto.w

pub returns : goal.returns
unfolding mark_rust
returns c = rw (← c.closure_count-k.ensures.0) c.mark_values.ensures
