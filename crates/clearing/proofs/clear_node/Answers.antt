-- `clearing::clear_node` meets its contract: the callees' equations joined. Assumes nothing.
use mathlib.Core.Path.{refl}
use native.Mathlib.Omega.{arith}
use Rattle.clearing.specs.Entries.{clear_node}
use Rattle.clearing.proofs.clear_node.Goals as goal

pub is_nil_at-requires : goal.is_nil_at-requires
is_nil_at-requires c = omega (arith, c.requires.q_in_bounds)

pub shape_of-w-then-is_nil_at : goal.shape_of-w-then-is_nil_at
shape_of-w-then-is_nil_at c = refl

pub returns-then-is_nil_at : goal.returns-then-is_nil_at
unfolding clear_node
returns-then-is_nil_at c = rw (← c.is_nil_at.ensures, c.if-is_nil_at.true)

pub node_dies-requires : goal.node_dies-requires
node_dies-requires c = c.requires

pub overflow_add-q : goal.overflow_add-q
overflow_add-q c = omega arith

pub put3-requires : goal.put3-requires
put3-requires c = omega (arith, c.requires.q_in_bounds)

pub shape_of-w-then-node_dies : goal.shape_of-w-then-node_dies
shape_of-w-then-node_dies c = c.put3.auto.w

pub returns-then-node_dies : goal.returns-then-node_dies
unfolding clear_node
returns-then-node_dies c = rw (← c.is_nil_at.ensures, c.if-is_nil_at.false, ← c.node_dies.ensures, c.if-node_dies.true) c.put3.ensures

pub shape_of-w-else-node_dies : goal.shape_of-w-else-node_dies
shape_of-w-else-node_dies c = refl

pub returns-else-node_dies : goal.returns-else-node_dies
unfolding clear_node
returns-else-node_dies c = rw (← c.is_nil_at.ensures, c.if-is_nil_at.false, ← c.node_dies.ensures, c.if-node_dies.false)
