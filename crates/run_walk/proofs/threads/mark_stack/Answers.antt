-- `run_walk::threads::mark_stack` meets its contract: the callees' equations joined. Assumes nothing.
use native.Mathlib.Omega.{arith}
use mathlib.Core.Path.{◌∙◌}
use Rattle.run_walk.specs.Threads.{mark_stack}
use Rattle.run_walk.proofs.threads.mark_stack.Goals as goal

pub thread_top-top-requires : goal.thread_top-top-requires
thread_top-top-requires c = c.requires.p_in_bounds

pub thread_open_count-opens-requires : goal.thread_open_count-opens-requires
thread_open_count-opens-requires c = c.requires.p_in_bounds

pub thread_suspended_count-suspended-requires : goal.thread_suspended_count-suspended-requires
thread_suspended_count-suspended-requires c = c.requires.p_in_bounds

pub overflow_add-p : goal.overflow_add-p
overflow_add-p c = omega (arith, c.requires.p_in_bounds)

pub mark_values-requires : goal.mark_values-requires
mark_values-requires c = record { l_in_bounds = c.requires.l_in_bounds; n_in_bounds = omega (arith, c.requires.p_in_bounds, c.thread_top-top.ensures.1) }

pub overflow_add-p-2 : goal.overflow_add-p-2
overflow_add-p-2 c = omega (arith, c.requires.p_in_bounds)

pub mark_upvalues-requires : goal.mark_upvalues-requires
mark_upvalues-requires c = record { l_in_bounds = omega (arith, c.requires.l_in_bounds, c.mark_values.auto.w); n_in_bounds = omega (arith, c.requires.p_in_bounds, c.thread_open_count-opens.ensures.1, c.mark_values.auto.w) }

pub overflow_add-p-3 : goal.overflow_add-p-3
overflow_add-p-3 c = omega (arith, c.requires.p_in_bounds)

pub mark_upvalues-requires-2 : goal.mark_upvalues-requires-2
mark_upvalues-requires-2 c = record { l_in_bounds = omega (arith, c.requires.l_in_bounds, c.mark_values.auto.w, c.mark_upvalues.auto.w); n_in_bounds = omega (arith, c.requires.p_in_bounds, c.thread_suspended_count-suspended.ensures.1, c.mark_values.auto.w, c.mark_upvalues.auto.w) }

pub shape_of-w : goal.shape_of-w
shape_of-w c = c.mark_upvalues-2.auto.w ∙ c.mark_upvalues.auto.w ∙ c.mark_values.auto.w

pub returns : goal.returns
unfolding mark_stack
returns c = rw (← c.thread_top-top.ensures.0, ← c.thread_open_count-opens.ensures.0, ← c.thread_suspended_count-suspended.ensures.0, ← c.mark_values.ensures, ← c.mark_upvalues.ensures) c.mark_upvalues-2.ensures
