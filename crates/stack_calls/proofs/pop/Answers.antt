-- `stack_calls::pop` meets its contract: the callees' equations joined. Assumes nothing.
use mathlib.Core.Path.{ap}
use Rattle.layout.specs.Plans.{sizes_given}
use Rattle.test1.specs.Calls.{call_err, call_words}
use Rattle.stack_calls.specs.StackCalls.{pop}
use Rattle.stack_calls.proofs.pop.Goals as goal

pub main_stack-s-requires : goal.main_stack-s-requires
main_stack-s-requires c = record { l_in_bounds = (rw c.in_ok-l.was at c.enter.ensures.1).words }

pub pop_value-requires : goal.pop_value-requires
pop_value-requires c = c.main_stack-s.ensures.1

pub returns : goal.returns
unfolding pop
returns c = call_words _ _ _ _ _ _ _ c.enter.ensures.0 (ap sizes_given c.in_ok-l.was) (rw (← c.main_stack-s.ensures.0) c.pop_value.ensures)

pub returns-in_err-l : goal.returns-in_err-l
unfolding pop
returns-in_err-l c = call_err _ _ _ c.enter.ensures.0 c.in_err-l.was c.from_residual.ensures.1
