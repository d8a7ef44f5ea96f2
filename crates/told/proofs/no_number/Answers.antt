-- `told::no_number` meets its contract: each way by its test. Assumes nothing.
use mathlib.Core.Path.{◌∙◌, refl, ap}
use Rattle.base.specs.Refusals.{number}
use Rattle.layout.specs.Plans.{sizes_given}
use Rattle.test1.specs.Calls.{ask_fits, ask_refused}
use Rattle.told.proofs.no_number.Goals as goal

pub returns-in-Ok : goal.returns-in-Ok
returns-in-Ok c = c.number.ensures ∙ ap number (ask_fits _ _ _ _ _ _ c.enter.ensures.0 (ap sizes_given c.in-Ok.is) refl)

pub returns-in-Err : goal.returns-in-Err
returns-in-Err c = c.number-in-Err.ensures ∙ ap number (ask_refused _ _ _ _ _ c.enter.ensures.0 (ap sizes_given c.in-Err.is))
