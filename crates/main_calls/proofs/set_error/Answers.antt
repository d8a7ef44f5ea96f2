-- `main_calls::set_error` meets its contract: the callees' equations joined. Assumes nothing.
use mathlib.Core.Path.{ap}
use native.Mathlib.Omega.{arith}
use Rattle.layout.specs.Plans.{sizes_given}
use Rattle.test1.specs.Calls.{call_err, call_words}
use Rattle.main_calls.specs.MainCalls.{set_error}
use Rattle.main_calls.proofs.set_error.Goals as goal

pub store_value-requires : goal.store_value-requires
store_value-requires c = record { l_in_bounds = (rw c.in_ok-l.was at c.enter.ensures.1).words; p_in_bounds = omega (arith, (rw c.in_ok-l.was at c.enter.ensures.1).header) }

pub returns : goal.returns
unfolding set_error
returns c = call_words _ _ _ _ _ _ _ c.enter.ensures.0 (ap sizes_given c.in_ok-l.was) c.store_value.ensures

pub returns-in_err-l : goal.returns-in_err-l
unfolding set_error
returns-in_err-l c = call_err _ _ _ c.enter.ensures.0 c.in_err-l.was c.from_residual.ensures.1
