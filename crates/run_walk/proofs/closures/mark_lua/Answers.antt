-- `run_walk::closures::mark_lua` meets its contract: the callees' equations joined. Assumes nothing.
use mathlib.Core.Path.{◌∙◌}
use native.Mathlib.Omega.{arith}
use Rattle.run_walk.specs.Closures.{mark_lua}
use Rattle.run_walk.proofs.closures.mark_lua.Goals as goal

pub closure_count-k-requires : goal.closure_count-k-requires
closure_count-k-requires c = c.requires.p_in_bounds

pub closure_proto-n-requires : goal.closure_proto-n-requires
closure_proto-n-requires c = c.requires.p_in_bounds

pub overflow_add-p : goal.overflow_add-p
overflow_add-p c = omega (arith, c.requires.p_in_bounds)

pub mark_upvalues-requires : goal.mark_upvalues-requires
mark_upvalues-requires c = record { l_in_bounds = c.requires.l_in_bounds; n_in_bounds = omega (arith, c.requires.p_in_bounds, c.closure_count-k.ensures.1) }

pub mark_proto_constants-requires : goal.mark_proto_constants-requires
mark_proto_constants-requires c = record { l_in_bounds = omega (arith, c.requires.l_in_bounds, c.mark_upvalues.auto.w) }

pub shape_of-w : goal.shape_of-w
shape_of-w c = c.mark_proto_constants.auto.w ∙ c.mark_upvalues.auto.w

pub returns : goal.returns
unfolding mark_lua
returns c = rw (← c.closure_count-k.ensures.0, ← c.closure_proto-n.ensures.0, ← c.mark_upvalues.ensures) c.mark_proto_constants.ensures
