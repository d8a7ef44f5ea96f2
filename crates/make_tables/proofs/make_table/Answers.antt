-- `make_tables::make_table` meets its contract: test 1 lets it in or refuses. Assumes nothing.
use mathlib.Core.Path.{ap}
use Rattle.layout.specs.Plans.{sizes_given}
use Rattle.make_tables.specs.Making.{make_table}
use Rattle.test1.specs.Calls.{call_err, call_words}
use Rattle.make_tables.proofs.make_table.Goals as goal

pub table_in-requires : goal.table_in-requires
table_in-requires c = record { l_in_bounds = (rw c.in_ok-l.was at c.enter.ensures.1).words }

pub returns : goal.returns
unfolding make_table
returns c = call_words _ _ _ _ _ _ _ c.enter.ensures.0 (ap sizes_given c.in_ok-l.was) c.table_in.ensures

pub returns-in_err-l : goal.returns-in_err-l
unfolding make_table
returns-in_err-l c = call_err _ _ _ c.enter.ensures.0 c.in_err-l.was c.from_residual.ensures.1
