-- `upvalue_calls::upvalue_set` meets its contract: the callees' equations joined. Assumes nothing.
use mathlib.Core.Path.{ap}
use native.Mathlib.Omega.{arith}
use Rattle.layout.specs.Plans.{sizes_given}
use Rattle.test1.specs.Calls.{call_marked, marked_err}
use Rattle.upvalue_calls.specs.UpvalueCalls.{upvalue_set}
use Rattle.upvalue_calls.proofs.upvalue_set.Goals as goal

pub store_in-a-requires : goal.store_in-a-requires
store_in-a-requires c = record { l_in_bounds = (rw c.in_ok-l.was at c.enter.ensures.1).words }

pub unmarked-requires : goal.unmarked-requires
unmarked-requires c = omega (arith, (rw c.in_ok-l.was at c.enter.ensures.1).header, c.store_in-a.auto.w)

pub returns : goal.returns
unfolding upvalue_set call_marked
returns c = rw (← c.enter.ensures.0, (ap sizes_given c.in_ok-l.was), ← c.store_in-a.ensures, ← c.unmarked.ensures)

pub returns-in_err-l : goal.returns-in_err-l
unfolding upvalue_set
returns-in_err-l c = marked_err _ _ _ c.enter.ensures.0 c.in_err-l.was c.from_residual.ensures.1
