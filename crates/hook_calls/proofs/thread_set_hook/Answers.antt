-- `hook_calls::thread_set_hook` meets its contract: the callees' equations joined. Assumes nothing.
use mathlib.Core.Path.{ap}
use native.Mathlib.Omega.{arith}
use Rattle.layout.specs.Plans.{sizes_given}
use Rattle.test1.specs.Calls.{call_marked, marked_err}
use Rattle.hook_calls.specs.HookCalls.{thread_set_hook}
use Rattle.hook_calls.proofs.thread_set_hook.Goals as goal

pub set_hook_in-r-requires : goal.set_hook_in-r-requires
set_hook_in-r-requires c = record { l_in_bounds = (rw c.in_ok-l.was at c.enter.ensures.1).words }

pub unmarked-requires : goal.unmarked-requires
unmarked-requires c = omega (arith, (rw c.in_ok-l.was at c.enter.ensures.1).header, c.set_hook_in-r.auto.w)

pub returns : goal.returns
unfolding thread_set_hook call_marked
returns c = rw (← c.enter.ensures.0, (ap sizes_given c.in_ok-l.was), ← c.set_hook_in-r.ensures, ← c.unmarked.ensures)

pub returns-in_err-l : goal.returns-in_err-l
unfolding thread_set_hook
returns-in_err-l c = marked_err _ _ _ c.enter.ensures.0 c.in_err-l.was c.from_residual.ensures.1
