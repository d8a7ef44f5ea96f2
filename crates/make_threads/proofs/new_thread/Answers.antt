-- `make_threads::new_thread` meets its contract: the record is written where it was made; a refusal is the answer. Assumes nothing.
use native.Mathlib.Omega.{arith}
use Rattle.std.proofs.lemmas.Result.{err_from_is_err_and}
use Rattle.laid.specs.Laid.{header_room, thread_words, threads_room, laid_of}
use Rattle.make_threads.specs.Making.{new_thread}
use Rattle.make_threads.proofs.new_thread.Goals as goal

pub new_object-requires : goal.new_object-requires
new_object-requires c = record { room = rw c.threads_of.ensures (threads_room _ _ (laid_of _ c.args.l.fits) c.requires.l_in_bounds); in_bounds = rw c.threads_of.ensures ((header_room _ c.args.w.now (laid_of _ c.args.l.fits) c.requires.l_in_bounds, omega (arith, c.thread_extent-n.ensures.1, thread_words _ (laid_of _ c.args.l.fits)), omega (arith, c.thread_extent-n.ensures.1))) }

pub set_thread_global-requires : goal.set_thread_global-requires
set_thread_global-requires c = omega (arith, (rw c.in_ok-i.was at (rw c.threads_of.ensures at c.new_object.ensures).1).1, thread_words _ (laid_of _ c.args.l.fits), c.new_object.auto.w)

pub set_thread_size-requires : goal.set_thread_size-requires
set_thread_size-requires c = record { p_in_bounds = omega (arith, (rw c.in_ok-i.was at (rw c.threads_of.ensures at c.new_object.ensures).1).1, thread_words _ (laid_of _ c.args.l.fits), c.new_object.auto.w, c.set_thread_global.auto.w); n_bound = c.requires.stack_bound }

pub returns : goal.returns
unfolding new_thread
returns c = rw (← c.thread_extent-n.ensures.0, ← (rw c.threads_of.ensures at c.new_object.ensures).0, c.in_ok-i.was, ← c.set_thread_global.ensures, ← c.set_thread_size.ensures)

pub returns-in_err-i : goal.returns-in_err-i
unfolding new_thread
returns-in_err-i c = let p = err_from_is_err_and c.from_residual.result c.from_residual.ensures.1 in rw (← c.thread_extent-n.ensures.0, ← (rw c.threads_of.ensures at c.new_object.ensures).0, c.in_err-i.was, p.1, p.2)
