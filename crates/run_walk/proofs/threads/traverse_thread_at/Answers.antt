-- `run_walk::threads::traverse_thread_at` meets its contract: the callees' equations joined. Assumes nothing.
use mathlib.Core.Path.{◌∙◌}
use native.Mathlib.Omega.{arith}
use Rattle.laid.specs.Laid.{threads_room, thread_words, grayagain_room_lem, laid_of}
use Rattle.run_walk.specs.Threads.{traverse_thread_at}
use Rattle.run_walk.proofs.threads.traverse_thread_at.Goals as goal

pub body_of-p-requires : goal.body_of-p-requires
body_of-p-requires c = record { room = rw c.threads_of-threads.ensures (threads_room _ _ (laid_of _ c.args.l.fits) c.requires.l_in_bounds); i_lt_slots = rw c.threads_of-threads.ensures (omega (arith, c.wide-i.ensures.0, c.requires.r_bound)) }

pub thread_global-g-requires : goal.thread_global-g-requires
thread_global-g-requires c = omega (arith, thread_words _ (laid_of _ c.args.l.fits), (rw c.threads_of-threads.ensures at c.body_of-p.ensures).1)

pub set_colour-requires : goal.set_colour-requires
set_colour-requires c = record { room = rw c.threads_of-threads.ensures (threads_room _ _ (laid_of _ c.args.l.fits) c.requires.l_in_bounds); i_lt_slots = rw c.threads_of-threads.ensures (omega (arith, c.wide-i.ensures.0, c.requires.r_bound)) }

pub mark_table_or-requires : goal.mark_table_or-requires
mark_table_or-requires c = record { l_in_bounds = omega (arith, c.requires.l_in_bounds, c.set_colour.auto.w) }

pub overflow_add-p : goal.overflow_add-p
overflow_add-p c = omega (arith, thread_words _ (laid_of _ c.args.l.fits), (rw c.threads_of-threads.ensures at c.body_of-p.ensures).1)

pub mark_value_at-requires : goal.mark_value_at-requires
mark_value_at-requires c = record { l_in_bounds = omega (arith, c.requires.l_in_bounds, c.set_colour.auto.w, c.mark_table_or.auto.w); p_in_bounds = omega (arith, thread_words _ (laid_of _ c.args.l.fits), (rw c.threads_of-threads.ensures at c.body_of-p.ensures).1, c.set_colour.auto.w, c.mark_table_or.auto.w) }

pub mark_stack-requires : goal.mark_stack-requires
mark_stack-requires c = record { l_in_bounds = omega (arith, c.requires.l_in_bounds, c.set_colour.auto.w, c.mark_table_or.auto.w, c.mark_value_at.auto.w); p_in_bounds = omega (arith, thread_words _ (laid_of _ c.args.l.fits), (rw c.threads_of-threads.ensures at c.body_of-p.ensures).1, c.set_colour.auto.w, c.mark_table_or.auto.w, c.mark_value_at.auto.w) }

pub push-requires : goal.push-requires
push-requires c = rw c.grayagain_of.ensures (grayagain_room_lem _ _ (laid_of _ c.args.l.fits) (omega (arith, c.requires.l_in_bounds, c.set_colour.auto.w, c.mark_table_or.auto.w, c.mark_value_at.auto.w, c.mark_stack.auto.w)))

pub shape_of-w : goal.shape_of-w
shape_of-w c = c.push.auto.w ∙ c.mark_stack.auto.w ∙ c.mark_value_at.auto.w ∙ c.mark_table_or.auto.w ∙ c.set_colour.auto.w

pub returns : goal.returns
unfolding traverse_thread_at
returns c = rw (← (rw c.wide-i.ensures.0 at (rw c.threads_of-threads.ensures at c.body_of-p.ensures).0), ← c.thread_global-g.ensures, ← (rw c.wide-i.ensures.0 at ((rw c.threads_of-threads.ensures at c.set_colour.ensures))), ← c.mark_table_or.ensures, ← c.mark_value_at.ensures, ← c.mark_stack.ensures) ((rw c.grayagain_of.ensures at c.push.ensures))
