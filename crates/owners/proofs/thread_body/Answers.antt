-- `owners::thread_body` meets its contract: the handle names a slot or none. Assumes nothing.
use native.Mathlib.Omega.{arith}
use Rattle.laid.specs.Laid.{thread_words, threads_room, laid_of}
use Rattle.owners.specs.Owners.{thread_body}
use Rattle.owners.proofs.thread_body.Goals as goal

pub name_of-requires : goal.name_of-requires
name_of-requires c = rw c.threads_of-threads.ensures (threads_room _ _ (laid_of _ c.args.l.fits) c.requires.l_in_bounds)

pub body_of-requires : goal.body_of-requires
body_of-requires c = record { room = rw c.threads_of-threads.ensures (threads_room _ _ (laid_of _ c.args.l.fits) c.requires.l_in_bounds); i_lt_slots = rw c.threads_of-threads.ensures (rw c.in_ok-i.was at (rw c.threads_of-threads.ensures at c.name_of.ensures).1) }

pub returns : goal.returns
unfolding thread_body
returns c = (rw (← (rw c.threads_of-threads.ensures at c.name_of.ensures).0, c.in_ok-i.was, (rw c.threads_of-threads.ensures at c.body_of.ensures).0), omega (arith, thread_words _ (laid_of _ c.args.l.fits), (rw c.threads_of-threads.ensures at c.body_of.ensures).1))

pub returns-in_err-i : goal.returns-in_err-i
unfolding thread_body
returns-in_err-i c = rw c.from_residual.ensures (rw (← (rw c.threads_of-threads.ensures at c.name_of.ensures).0, c.in_err-i.was), tt)
