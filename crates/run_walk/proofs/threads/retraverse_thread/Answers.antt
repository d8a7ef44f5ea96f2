-- `run_walk::threads::retraverse_thread` meets its contract: each way by its test. Assumes nothing.
use mathlib.Core.Path.{refl}
use Rattle.mark.specs.Shades.{named_in}
use Rattle.laid.specs.Laid.{threads_room, laid_of}
use Rattle.base.specs.Ways.{eq_yes, eq_no}
use Rattle.run_walk.specs.Threads.{retraverse_thread}
use Rattle.run_walk.proofs.threads.retraverse_thread.Goals as goal

pub shade-requires : goal.shade-requires
shade-requires c = rw c.threads_of.ensures (threads_room _ _ (laid_of _ c.args.l.fits) c.requires.l_in_bounds)

pub shape_of-w-then-shade-eq0 : goal.shape_of-w-then-shade-eq0
shape_of-w-then-shade-eq0 c = refl

pub returns-then-shade-eq0 : goal.returns-then-shade-eq0
unfolding retraverse_thread
returns-then-shade-eq0 c = rw (← (rw c.threads_of.ensures at c.shade.ensures)) (eq_yes _ _ _ _ _ c.if-shade-eq0.true refl)

pub retraverse_thread_at-requires : goal.retraverse_thread_at-requires
retraverse_thread_at-requires c = record { l_in_bounds = c.requires.l_in_bounds; r_bound = named_in _ _ _ _ ((rw c.threads_of.ensures at c.shade.ensures)) c.if-shade-eq0.false }

pub shape_of-w : goal.shape_of-w
shape_of-w c = c.retraverse_thread_at.auto.w

pub returns : goal.returns
unfolding retraverse_thread
returns c = rw (← (rw c.threads_of.ensures at c.shade.ensures)) (eq_no _ _ _ _ _ c.if-shade-eq0.false c.retraverse_thread_at.ensures)
