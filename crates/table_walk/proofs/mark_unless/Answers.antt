-- `table_walk::mark_unless` meets its contract: each way by its test. Assumes nothing.
use Rattle.table_walk.specs.Tables.{mark_unless}
use Rattle.table_walk.proofs.mark_unless.Goals as goal

pub returns-then-not-weak : goal.returns-then-not-weak
unfolding mark_unless
returns-then-not-weak c = rw c.if-not-weak.true c.mark_place.ensures

pub returns-else-not-weak : goal.returns-else-not-weak
unfolding mark_unless
returns-else-not-weak c = rw c.if-not-weak.false
