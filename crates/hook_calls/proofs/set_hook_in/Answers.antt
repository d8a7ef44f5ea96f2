-- `hook_calls::set_hook_in` meets its contract: the handle names a thread or none. Assumes nothing.
use Rattle.entered.specs.Entered.{none_refused}
use Rattle.owners.specs.Owners.{on_thread}
use Rattle.hook_calls.proofs.set_hook_in.Goals as goal

pub set_hook_at-requires : goal.set_hook_at-requires
set_hook_at-requires c = record { l_in_bounds = c.requires.l_in_bounds; p_in_bounds = rw (rw c.in_ok-p.was at c.ok_or.ensures.ok_part) at c.thread_body.ensures.1 }

pub returns : goal.returns
unfolding on_thread
returns c = rw (← c.thread_body.ensures.0, rw c.in_ok-p.was at c.ok_or.ensures.ok_part) c.set_hook_at.ensures

pub returns-in_err-p : goal.returns-in_err-p
unfolding on_thread
returns-in_err-p c = let (a, b) = none_refused _ _ c.ok_or.ensures.value c.in_err-p.was c.from_residual.ensures.1 in rw (← c.thread_body.ensures.0, a, b)
