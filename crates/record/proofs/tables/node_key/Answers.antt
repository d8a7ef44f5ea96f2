-- `record::tables::node_key` meets its contract: from what its callees promise. Assumes nothing.
use Rattle.record.proofs.tables.node_key.Goals as goal

pub returns : goal.returns
returns c = rw (← c.node_place.ensures.0) c.read_value.ensures
