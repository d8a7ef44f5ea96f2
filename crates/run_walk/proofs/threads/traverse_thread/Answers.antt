-- `run_walk::threads::traverse_thread` meets its contract: each way by its test. Assumes nothing.
use native.Mathlib.Omega.{arith}
use mathlib.Core.Path.{refl}
use Rattle.mark.specs.Shades.{named_in}
use Rattle.laid.specs.Laid.{threads_room, thread_words, laid_of}
use Rattle.base.specs.Ways.{eq_yes, eq_no}
use Rattle.run_walk.specs.Threads.{traverse_thread}
use Rattle.run_walk.proofs.threads.traverse_thread.Goals as goal

pub shade-requires : goal.shade-requires
shade-requires c = rw c.threads_of-threads.ensures (threads_room _ _ (laid_of _ c.args.l.fits) c.requires.l_in_bounds)

pub shape_of-w-then-shade-eq0 : goal.shape_of-w-then-shade-eq0
shape_of-w-then-shade-eq0 c = refl

pub returns-then-shade-eq0 : goal.returns-then-shade-eq0
unfolding traverse_thread
returns-then-shade-eq0 c = (rw (← (rw c.threads_of-threads.ensures at c.shade.ensures)) (eq_yes _ _ _ _ _ c.if-shade-eq0.true refl), omega arith)

pub body_of-requires : goal.body_of-requires
body_of-requires c = record { room = rw c.threads_of-threads.ensures (threads_room _ _ (laid_of _ c.args.l.fits) c.requires.l_in_bounds); i_lt_slots = rw c.threads_of-threads.ensures (omega (arith, c.wide.ensures.0, named_in _ _ _ _ ((rw c.threads_of-threads.ensures at c.shade.ensures)) c.if-shade-eq0.false)) }

pub thread_cost-c-requires : goal.thread_cost-c-requires
thread_cost-c-requires c = omega (arith, thread_words _ (laid_of _ c.args.l.fits), (rw c.threads_of-threads.ensures at c.body_of.ensures).1)

pub traverse_thread_at-requires : goal.traverse_thread_at-requires
traverse_thread_at-requires c = record { l_in_bounds = c.requires.l_in_bounds; r_bound = named_in _ _ _ _ ((rw c.threads_of-threads.ensures at c.shade.ensures)) c.if-shade-eq0.false }

pub shape_of-w : goal.shape_of-w
shape_of-w c = c.traverse_thread_at.auto.w

pub returns : goal.returns
unfolding traverse_thread
returns c = (rw (← (rw c.threads_of-threads.ensures at c.shade.ensures)) (eq_no _ _ _ _ _ c.if-shade-eq0.false (rw (← (rw c.wide.ensures.0 at (rw c.threads_of-threads.ensures at c.body_of.ensures).0), ← c.thread_cost-c.ensures.0, ← c.traverse_thread_at.ensures))), c.thread_cost-c.ensures.1)
