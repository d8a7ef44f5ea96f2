-- `node_calls::is_node` meets its contract: each way by its test. Assumes nothing.
use Rattle.node_calls.specs.NodeCalls.{is_node}
use Rattle.node_calls.proofs.is_node.Goals as goal

pub returns-then-is_nan_key : goal.returns-then-is_nan_key
unfolding is_node
returns-then-is_nan_key c = rw (← c.is_nan_key.ensures, c.if-is_nan_key.true)

pub returns-then-is_nil : goal.returns-then-is_nil
unfolding is_node
returns-then-is_nil c = rw (← c.is_nan_key.ensures, c.if-is_nan_key.false, ← c.is_nil.ensures, c.if-is_nil.true) c.is_nil-then-is_nil.ensures

pub returns-else-is_nil : goal.returns-else-is_nil
unfolding is_node
returns-else-is_nil c = rw (← c.is_nan_key.ensures, c.if-is_nan_key.false, ← c.is_nil.ensures, c.if-is_nil.false)
