-- `steps::gc_singlestep` meets its contract: the callees' equations joined. Assumes nothing.
use mathlib.Core.Path.{ap}
use native.Mathlib.Omega.{arith}
use Rattle.std.proofs.lemmas.Result.{err_from_is_err_and}
use Rattle.layout.specs.Plans.{sizes_given}
use Rattle.test1.specs.Calls.{call_marked, marked_refused}
use Rattle.steps.specs.Steps.{gc_singlestep}
use Rattle.steps.proofs.gc_singlestep.Goals as goal

pub single_in-a-requires : goal.single_in-a-requires
single_in-a-requires c = record { l_in_bounds = (rw c.in_ok-l.was at c.enter.ensures.1).words; l_in_bounds_2 = (rw c.in_ok-l.was at c.enter.ensures.1).bytes }

pub unmarked-requires : goal.unmarked-requires
unmarked-requires c = omega (arith, (rw c.in_ok-l.was at c.enter.ensures.1).header, c.single_in-a.auto.w)

pub returns : goal.returns
unfolding gc_singlestep call_marked
returns c = rw (← c.enter.ensures.0, (ap sizes_given c.in_ok-l.was), ← c.single_in-a.ensures, ← c.unmarked.ensures)

pub returns-in_err-l : goal.returns-in_err-l
unfolding gc_singlestep
returns-in_err-l c = let p = err_from_is_err_and c.from_residual.result c.from_residual.ensures.1 in rw (p.1, p.2) (marked_refused _ _ _ _ _ c.enter.ensures.0 (ap sizes_given c.in_err-l.was))
