-- `make_strings::make_string` meets its contract: test 1 lets it in or refuses. Assumes nothing.
use mathlib.Core.Path.{ap}
use Rattle.layout.specs.Plans.{sizes_given}
use Rattle.test1.specs.Calls.{call_fits, call_err}
use Rattle.make_strings.specs.Making.{make_string}
use Rattle.make_strings.proofs.make_string.Goals as goal

pub string_in-requires : goal.string_in-requires
string_in-requires c = record { l_in_bounds = (rw c.in_ok-l.was at c.enter.ensures.1).words; l_in_bounds_2 = (rw c.in_ok-l.was at c.enter.ensures.1).bytes }

pub returns : goal.returns
unfolding make_string
returns c = call_fits _ _ _ _ _ _ c.enter.ensures.0 (ap sizes_given c.in_ok-l.was) c.string_in.ensures

pub returns-in_err-l : goal.returns-in_err-l
unfolding make_string
returns-in_err-l c = call_err _ _ _ c.enter.ensures.0 c.in_err-l.was c.from_residual.ensures.1
