-- `record::tables::node_count` meets its contract: from what its callees promise. Assumes nothing.
use Rattle.record.proofs.tables.node_count.Goals as goal

pub returns : goal.returns
returns c = rw (← c.get.ensures) c.node_number.ensures
