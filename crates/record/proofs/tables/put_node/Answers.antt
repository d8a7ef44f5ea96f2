-- `record::tables::put_node` meets its contract: from what its callees promise. Assumes nothing.
use Rattle.record.specs.Tables.{put_node}
use Rattle.record.proofs.tables.put_node.Goals as goal

pub returns : goal.returns
unfolding put_node
returns c = rw (← c.write_value.ensures) c.write_value-2.ensures
