-- `table_walk::mark_array` meets its contract: each way by its test. Assumes nothing.
use Rattle.table_walk.specs.Tables.{mark_array}
use Rattle.table_walk.proofs.mark_array.Goals as goal

pub returns-then-m : goal.returns-then-m
unfolding mark_array
returns-then-m c = rw c.if-m.true

pub returns : goal.returns
unfolding mark_array
returns c = rw c.if-m.false c.mark_values.ensures
