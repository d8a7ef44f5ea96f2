-- `run_walk::main_thread::traverse_main_thread` meets its contract: the callees' equations joined. Assumes nothing.
use mathlib.Core.Path.{◌∙◌}
use native.Mathlib.Omega.{arith}
use Rattle.layout.specs.Layout.{lay_of}
use Rattle.laid.specs.Laid.{grayagain_room_lem, laid_of}
use Rattle.run_walk.specs.MainThread.{traverse_main_thread}
use Rattle.run_walk.proofs.Laws.{stack_most, frames_most}
use Rattle.run_walk.proofs.main_thread.traverse_main_thread.Goals as goal

pub mark_main-requires : goal.mark_main-requires
unfolding lay_of
mark_main-requires c = record { l_in_bounds = c.requires.l_in_bounds }

pub push-requires : goal.push-requires
unfolding lay_of
push-requires c = rw c.grayagain_of.ensures (grayagain_room_lem _ _ (laid_of _ c.args.l.fits) (omega (arith, c.requires.l_in_bounds, c.mark_main.auto.w)))

pub overflow_mul-result : goal.overflow_mul-result
unfolding lay_of
overflow_mul-result c = omega (arith, stack_most _ (laid_of _ c.args.l.fits))

pub overflow_add-result : goal.overflow_add-result
unfolding lay_of
overflow_add-result c = omega (arith, stack_most _ (laid_of _ c.args.l.fits))

pub overflow_mul-result-2 : goal.overflow_mul-result-2
unfolding lay_of
overflow_mul-result-2 c = omega (arith, frames_most _ (laid_of _ c.args.l.fits))

pub overflow_add-result-2 : goal.overflow_add-result-2
unfolding lay_of
overflow_add-result-2 c = omega (arith, stack_most _ (laid_of _ c.args.l.fits), frames_most _ (laid_of _ c.args.l.fits))

pub shape_of-w : goal.shape_of-w
unfolding lay_of
shape_of-w c = c.push.auto.w ∙ c.mark_main.auto.w

pub returns : goal.returns
unfolding traverse_main_thread lay_of
returns c = (rw (← c.mark_main.ensures, ← (rw c.grayagain_of.ensures at c.push.ensures)), omega (arith, stack_most _ (laid_of _ c.args.l.fits), frames_most _ (laid_of _ c.args.l.fits)))
