-- `audit::audit` meets its contract: test 1 lets it in or refuses. Assumes nothing.
use mathlib.Core.Path.{ap}
use Rattle.std.proofs.lemmas.Result.{err_from_is_err_and}
use Rattle.layout.specs.Plans.{sizes_given}
use Rattle.test1.specs.Calls.{ask_fits, ask_refused}
use Rattle.audit.specs.Audit.{audit}
use Rattle.audit.proofs.audit.Goals as goal

pub passes-requires : goal.passes-requires
passes-requires c = record { l_in_bounds = (rw c.in_ok-l.was at c.enter.ensures.1).words }

pub returns : goal.returns
unfolding audit
returns c = ask_fits _ _ _ _ _ _ c.enter.ensures.0 (ap sizes_given c.in_ok-l.was) (rw (← c.passes.ensures) c.say.ensures)

pub returns-in_err-l : goal.returns-in_err-l
unfolding audit
returns-in_err-l c = let p = err_from_is_err_and c.from_residual.result c.from_residual.ensures.1 in rw (p.1, p.2) (ask_refused _ _ _ _ _ c.enter.ensures.0 (ap sizes_given c.in_err-l.was))
