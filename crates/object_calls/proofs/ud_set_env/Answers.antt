-- `object_calls::ud_set_env` meets its contract: the callees' equations joined. Assumes nothing.
use mathlib.Core.Path.{ap}
use native.Mathlib.Omega.{arith}
use Rattle.layout.specs.Plans.{sizes_given}
use Rattle.test1.specs.Calls.{call_marked, marked_err}
use Rattle.object_calls.specs.ObjectCalls.{ud_set_env}
use Rattle.object_calls.proofs.ud_set_env.Goals as goal

pub ud_set_in-a-requires : goal.ud_set_in-a-requires
ud_set_in-a-requires c = record { l_in_bounds = (rw c.in_ok-l.was at c.enter.ensures.1).words }

pub unmarked-requires : goal.unmarked-requires
unmarked-requires c = omega (arith, (rw c.in_ok-l.was at c.enter.ensures.1).header, c.ud_set_in-a.auto.w)

pub returns : goal.returns
unfolding ud_set_env call_marked
returns c = rw (← c.enter.ensures.0, (ap sizes_given c.in_ok-l.was), ← c.ud_set_in-a.ensures, ← c.unmarked.ensures)

pub returns-in_err-l : goal.returns-in_err-l
unfolding ud_set_env
returns-in_err-l c = marked_err _ _ _ c.enter.ensures.0 c.in_err-l.was c.from_residual.ensures.1
