-- `thread_suspended_calls::thread_suspended_push` meets its contract: the callees' equations joined. Assumes nothing.
use mathlib.Core.Path.{ap}
use Rattle.layout.specs.Plans.{sizes_given}
use Rattle.entered.specs.Entered.{none_refused}
use Rattle.owners.specs.Owners.{on_thread}
use Rattle.test1.specs.Calls.{call_err, call_words}
use Rattle.thread_suspended_calls.specs.ThreadSuspended.{thread_suspended_push}
use Rattle.thread_suspended_calls.proofs.thread_suspended_push.Goals as goal

pub thread_body-requires : goal.thread_body-requires
thread_body-requires c = record { l_in_bounds = (rw c.in_ok-l.was at c.enter.ensures.1).words }

pub thread_suspended-s-requires : goal.thread_suspended-s-requires
thread_suspended-s-requires c = rw (rw c.in_ok-p.was at c.ok_or.ensures.ok_part) at c.thread_body.ensures.1

pub push_upvalue-requires : goal.push_upvalue-requires
push_upvalue-requires c = record { l_in_bounds = (rw c.in_ok-l.was at c.enter.ensures.1).words; holds = c.thread_suspended-s.ensures.1 }

pub returns : goal.returns
unfolding thread_suspended_push on_thread
returns c = call_words _ _ _ _ _ _ _ c.enter.ensures.0 (ap sizes_given c.in_ok-l.was) (rw (← c.thread_body.ensures.0, rw c.in_ok-p.was at c.ok_or.ensures.ok_part, ← c.thread_suspended-s.ensures.0) c.push_upvalue.ensures)

pub returns-in_err-p : goal.returns-in_err-p
unfolding thread_suspended_push on_thread
returns-in_err-p c = call_words _ _ _ _ _ _ _ c.enter.ensures.0 (ap sizes_given c.in_ok-l.was) (let (a, b) = none_refused _ _ c.ok_or.ensures.value c.in_err-p.was c.from_residual-in_err-p.ensures.1 in rw (← c.thread_body.ensures.0, a, b))

pub returns-in_err-l : goal.returns-in_err-l
unfolding thread_suspended_push
returns-in_err-l c = call_err _ _ _ c.enter.ensures.0 c.in_err-l.was c.from_residual.ensures.1
