-- `record::tables::set_node_value` meets its contract: from what its callees promise. Assumes nothing.
use Rattle.record.proofs.tables.set_node_value.Goals as goal

pub returns : goal.returns
returns c = rw (← c.node_place-q.ensures.0) c.write_value.ensures
