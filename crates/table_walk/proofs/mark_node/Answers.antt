-- `table_walk::mark_node` meets its contract: each way by its tests. Assumes nothing.
use Rattle.table_walk.specs.Tables.{mark_node}
use Rattle.table_walk.proofs.mark_node.Goals.{else-not-is_nil_at-via-then-not-is_nil_at+else-not-is_nil_at-2 as no_value, else-not-is_nil_at-via-else-not-is_nil_at as no_key}
use Rattle.table_walk.proofs.mark_node.Goals as goal

pub returns-then-not-is_nil_at-2 : goal.returns-then-not-is_nil_at-2
unfolding mark_node
returns-then-not-is_nil_at-2 c = rw (← c.is_nil_at.ensures, c.if-not-is_nil_at.true, ← c.is_nil_at-then-not-is_nil_at.ensures, c.if-not-is_nil_at-2.true) c.mark_pair.ensures

pub returns-else-not-is_nil_at : goal.returns-else-not-is_nil_at
unfolding mark_node
returns-else-not-is_nil_at c = elim c.else-not-is_nil_at.branch [
  | no_key w ↦ rw (← c.is_nil_at.ensures, w.if-not-is_nil_at.false)
  | no_value w ↦ rw (← c.is_nil_at.ensures, w.if-not-is_nil_at.true, ← w.is_nil_at-then-not-is_nil_at.ensures, w.if-not-is_nil_at-2.false)
]
