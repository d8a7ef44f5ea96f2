-- `settings::set_limit` meets its contract: the callees' equations joined. Assumes nothing.
use mathlib.Core.Path.{ap}
use native.Mathlib.Omega.{arith}
use Rattle.layout.specs.Plans.{sizes_given}
use Rattle.test1.specs.Calls.{call_err, call_words}
use Rattle.settings.specs.Settings.{set_limit}
use Rattle.settings.proofs.set_limit.Goals as goal

pub set_limit_in-requires : goal.set_limit_in-requires
set_limit_in-requires c = omega (arith, (rw c.in_ok-enter.was at c.enter.ensures.1).header)

pub returns : goal.returns
unfolding set_limit
returns c = call_words _ _ _ _ _ _ _ c.enter.ensures.0 (ap sizes_given c.in_ok-enter.was) c.set_limit_in.ensures

pub returns-in_err-enter : goal.returns-in_err-enter
unfolding set_limit
returns-in_err-enter c = call_err _ _ _ c.enter.ensures.0 c.in_err-enter.was c.from_residual.ensures.1
