-- `run_walk::main_thread::mark_main` meets its contract: the callees' equations joined. Assumes nothing.
use mathlib.Core.Path.{◌∙◌}
use native.Mathlib.Omega.{arith}
use Rattle.laid.specs.Laid.{laid_of}
use Rattle.run_walk.specs.MainThread.{mark_main}
use Rattle.run_walk.proofs.Laws.{parts_in}
use Rattle.run_walk.proofs.main_thread.mark_main.Goals as goal

pub main_top-requires : goal.main_top-requires
main_top-requires c = parts_in (laid_of _ c.args.l.fits) c.requires.l_in_bounds

pub mark_values-requires : goal.mark_values-requires
mark_values-requires c = record { l_in_bounds = c.requires.l_in_bounds; n_in_bounds = omega (arith, c.stack_at.ensures, (parts_in (laid_of _ c.args.l.fits) c.requires.l_in_bounds).stack, c.main_top.ensures.1) }

pub main_open_count-requires : goal.main_open_count-requires
main_open_count-requires c = parts_in (laid_of _ c.args.l.fits) (omega (arith, c.opens_at.ensures, c.stack_at.ensures, c.requires.l_in_bounds, c.mark_values.auto.w))

pub mark_upvalues-requires : goal.mark_upvalues-requires
mark_upvalues-requires c = record { l_in_bounds = omega (arith, c.opens_at.ensures, c.stack_at.ensures, c.requires.l_in_bounds, c.mark_values.auto.w); n_in_bounds = omega (arith, c.opens_at.ensures, c.stack_at.ensures, (parts_in (laid_of _ c.args.l.fits) c.requires.l_in_bounds).opens, c.main_open_count.ensures.1, c.mark_values.auto.w) }

pub mark_value_at-requires : goal.mark_value_at-requires
mark_value_at-requires c = record { l_in_bounds = omega (arith, c.opens_at.ensures, c.stack_at.ensures, c.requires.l_in_bounds, c.mark_values.auto.w, c.mark_upvalues.auto.w); p_in_bounds = omega (arith, c.opens_at.ensures, c.stack_at.ensures, (parts_in (laid_of _ c.args.l.fits) c.requires.l_in_bounds).header, c.mark_values.auto.w, c.mark_upvalues.auto.w) }

pub mark_value_at-requires-2 : goal.mark_value_at-requires-2
mark_value_at-requires-2 c = record { l_in_bounds = omega (arith, c.opens_at.ensures, c.stack_at.ensures, c.requires.l_in_bounds, c.mark_values.auto.w, c.mark_upvalues.auto.w, c.mark_value_at.auto.w); p_in_bounds = omega (arith, c.opens_at.ensures, c.stack_at.ensures, (parts_in (laid_of _ c.args.l.fits) c.requires.l_in_bounds).header, c.mark_values.auto.w, c.mark_upvalues.auto.w, c.mark_value_at.auto.w) }

pub main_ci-requires : goal.main_ci-requires
main_ci-requires c = parts_in (laid_of _ c.args.l.fits) (omega (arith, c.opens_at.ensures, c.stack_at.ensures, c.requires.l_in_bounds, c.mark_values.auto.w, c.mark_upvalues.auto.w, c.mark_value_at.auto.w, c.mark_value_at-2.auto.w))

pub overflow_add-main_ci : goal.overflow_add-main_ci
overflow_add-main_ci c = omega (arith, c.opens_at.ensures, c.stack_at.ensures, (parts_in (laid_of _ c.args.l.fits) c.requires.l_in_bounds).frames, c.main_ci.ensures.1)

pub mark_frames-requires : goal.mark_frames-requires
mark_frames-requires c = record { l_in_bounds = omega (arith, c.opens_at.ensures, c.stack_at.ensures, c.requires.l_in_bounds, c.mark_values.auto.w, c.mark_upvalues.auto.w, c.mark_value_at.auto.w, c.mark_value_at-2.auto.w); n_bound = omega (arith, c.opens_at.ensures, c.stack_at.ensures, c.main_ci.ensures.1) }

pub shape_of-w : goal.shape_of-w
shape_of-w c = c.mark_frames.auto.w ∙ c.mark_value_at-2.auto.w ∙ c.mark_value_at.auto.w ∙ c.mark_upvalues.auto.w ∙ c.mark_values.auto.w

pub returns : goal.returns
unfolding mark_main
returns c = rw (← c.main_top.ensures.0, ← (rw c.stack_at.ensures at c.mark_values.ensures), ← c.main_open_count.ensures.0, ← (rw c.opens_at.ensures at c.mark_upvalues.ensures), ← c.mark_value_at.ensures, ← c.mark_value_at-2.ensures, ← c.main_ci.ensures.0) c.mark_frames.ensures
