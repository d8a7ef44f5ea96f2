-- `main_calls::open_push` meets its contract: the callees' equations joined. Assumes nothing.
use mathlib.Core.Path.{ap}
use Rattle.layout.specs.Plans.{sizes_given}
use Rattle.test1.specs.Calls.{call_err, call_words}
use Rattle.main_calls.specs.MainCalls.{open_push}
use Rattle.main_calls.proofs.open_push.Goals as goal

pub main_opens-s-requires : goal.main_opens-s-requires
main_opens-s-requires c = record { l_in_bounds = (rw c.in_ok-l.was at c.enter.ensures.1).words }

pub push_upvalue-requires : goal.push_upvalue-requires
push_upvalue-requires c = record { l_in_bounds = (rw c.in_ok-l.was at c.enter.ensures.1).words; holds = c.main_opens-s.ensures.1 }

pub returns : goal.returns
unfolding open_push
returns c = call_words _ _ _ _ _ _ _ c.enter.ensures.0 (ap sizes_given c.in_ok-l.was) (rw (← c.main_opens-s.ensures.0) c.push_upvalue.ensures)

pub returns-in_err-l : goal.returns-in_err-l
unfolding open_push
returns-in_err-l c = call_err _ _ _ c.enter.ensures.0 c.in_err-l.was c.from_residual.ensures.1
