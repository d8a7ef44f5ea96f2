-- `codes::no_question` meets its contract: from what its callees promise. Assumes nothing.
use mathlib.Core.Path.{refl, ap}
use Rattle.std.proofs.lemmas.Result.{err_from_is_err_and}
use Rattle.layout.specs.Plans.{sizes_given}
use Rattle.test1.specs.Calls.{ask_fits, ask_refused}
use Rattle.codes.proofs.no_question.Goals as goal

pub returns : goal.returns
returns c = ask_fits _ _ _ _ _ _ c.enter.ensures.0 (ap sizes_given c.in_ok-enter.was) refl

pub returns-in_err-enter : goal.returns-in_err-enter
returns-in_err-enter c = let p = err_from_is_err_and c.from_residual.result c.from_residual.ensures.1 in rw (p.1, p.2) (ask_refused _ _ _ _ _ c.enter.ensures.0 (ap sizes_given c.in_err-enter.was))
