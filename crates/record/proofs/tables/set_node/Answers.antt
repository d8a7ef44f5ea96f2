-- `record::tables::set_node` meets its contract: from what its callees promise. Assumes nothing.
use Rattle.record.proofs.tables.set_node.Goals as goal

pub returns : goal.returns
returns c = rw (← c.node_place-q.ensures.0) c.put_node.ensures
