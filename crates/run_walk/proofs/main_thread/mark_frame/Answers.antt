-- `run_walk::main_thread::mark_frame` meets its contract: each way by its test. Assumes nothing.
use native.Mathlib.Omega.{arith}
use mathlib.Core.Path.{refl}
use Rattle.layout.specs.Layout.{lay_of}
use Rattle.base.specs.Ways.{lt_yes, lt_no}
use Rattle.laid.specs.Laid.{laid_of}
use Rattle.run_walk.proofs.Laws.{parts_in}
use Rattle.run_walk.specs.MainThread.{mark_frame}
use Rattle.run_walk.proofs.main_thread.mark_frame.Goals as goal

pub frame_function-f-requires : goal.frame_function-f-requires
unfolding lay_of
frame_function-f-requires c = record { parts = parts_in (laid_of _ c.args.l.fits) c.requires.l_in_bounds; i_bound = c.requires.i_bound }

pub overflow_mul-f : goal.overflow_mul-f
unfolding lay_of
overflow_mul-f c = omega (arith, c.stack_at.ensures, c.frame_function-f.ensures.1)

pub overflow_add-stack_at : goal.overflow_add-stack_at
unfolding lay_of
overflow_add-stack_at c = omega (arith, c.stack_at.ensures, (parts_in (laid_of _ c.args.l.fits) c.requires.l_in_bounds).stack, c.if-f-l.true)

pub mark_value_at-requires : goal.mark_value_at-requires
unfolding lay_of
mark_value_at-requires c = record { l_in_bounds = c.requires.l_in_bounds; p_in_bounds = omega (arith, c.stack_at.ensures, (parts_in (laid_of _ c.args.l.fits) c.requires.l_in_bounds).stack, c.if-f-l.true) }

pub shape_of-w-then-f-l : goal.shape_of-w-then-f-l
unfolding lay_of
shape_of-w-then-f-l c = c.mark_value_at.auto.w

pub returns-then-f-l : goal.returns-then-f-l
unfolding mark_frame lay_of
returns-then-f-l c = rw (← c.frame_function-f.ensures.0) (lt_yes _ _ _ _ _ c.if-f-l.true ((rw c.stack_at.ensures at c.mark_value_at.ensures)))

pub shape_of-w-else-f-l : goal.shape_of-w-else-f-l
shape_of-w-else-f-l c = refl

pub returns-else-f-l : goal.returns-else-f-l
unfolding mark_frame lay_of
returns-else-f-l c = rw (← c.frame_function-f.ensures.0) (lt_no _ _ _ _ _ c.if-f-l.false refl)
