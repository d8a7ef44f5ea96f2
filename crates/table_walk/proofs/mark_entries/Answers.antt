-- `table_walk::mark_entries` meets its contract: the callees' equations joined. Assumes nothing.
use Rattle.table_walk.specs.Tables.{mark_entries}
use Rattle.table_walk.proofs.mark_entries.Goals as goal

pub returns-then-is_both : goal.returns-then-is_both
unfolding mark_entries
returns-then-is_both c = rw (← c.is_both.ensures, c.if-is_both.true)

pub returns : goal.returns
unfolding mark_entries
returns c = rw (← c.is_both.ensures, c.if-is_both.false, ← c.array_size-n.ensures.0, ← c.node_count-k.ensures.0, ← c.mark_array.ensures) c.mark_nodes.ensures
