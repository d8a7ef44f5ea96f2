-- `given::is_table_or` meets its contract: by the two cases. Assumes nothing.
use Rattle.given.specs.Given.{is_table_or}
use Rattle.given.proofs.is_table_or.Goals as goal

pub returns-in-Some : goal.returns-in-Some
unfolding is_table_or
returns-in-Some c = rw c.in-Some.is c.is_table.ensures

pub returns-in-None : goal.returns-in-None
unfolding is_table_or
returns-in-None c = rw c.in-None.is
