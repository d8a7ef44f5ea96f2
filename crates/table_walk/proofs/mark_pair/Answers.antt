-- `table_walk::mark_pair` meets its contract: the callees' equations joined. Assumes nothing.
use Rattle.table_walk.specs.Tables.{mark_pair}
use Rattle.table_walk.proofs.mark_pair.Goals as goal

pub returns : goal.returns
unfolding mark_pair
returns c = rw (← c.mark_unless.ensures) c.mark_unless-2.ensures
