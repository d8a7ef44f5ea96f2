-- `node_calls::store_node` meets its contract: each way by its test. Assumes nothing.
use mathlib.Core.Path.{◌∙◌, refl}
use native.Mathlib.Omega.{arith}
use Rattle.base.specs.Ways.{le_no, le_yes}
use Rattle.node_calls.specs.NodeCalls.{store_node}
use Rattle.node_calls.proofs.store_node.Goals as goal

pub returns-then-node_count-j : goal.returns-then-node_count-j
unfolding store_node
returns-then-node_count-j c = le_yes _ _ _ _ _ (rw c.node_count.ensures.0 at c.if-node_count-j.true) refl

pub returns-then-is_taken : goal.returns-then-is_taken
unfolding store_node
returns-then-is_taken c = le_no _ _ _ _ _ (omega (arith, c.node_count.ensures.0, c.if-node_count-j.false)) (rw (← c.is_taken.ensures, c.if-is_taken.true))

pub returns-then-not-is_sound : goal.returns-then-not-is_sound
unfolding store_node
returns-then-not-is_sound c = le_no _ _ _ _ _ (omega (arith, c.node_count.ensures.0, c.if-node_count-j.false)) (rw (← c.is_taken.ensures, c.if-is_taken.false, ← c.is_sound.ensures, c.if-not-is_sound.true))

pub returns-then-not-is_sound-2 : goal.returns-then-not-is_sound-2
unfolding store_node
returns-then-not-is_sound-2 c = le_no _ _ _ _ _ (omega (arith, c.node_count.ensures.0, c.if-node_count-j.false)) (rw (← c.is_taken.ensures, c.if-is_taken.false, ← c.is_sound.ensures, c.if-not-is_sound.false, ← c.is_sound-2.ensures, c.if-not-is_sound-2.true))

pub set_node-requires : goal.set_node-requires
set_node-requires c = record { p_in_bounds = c.requires.p_in_bounds; j_bound = omega (arith, c.node_count.ensures.1, c.if-node_count-j.false) }

pub barrier_back-requires : goal.barrier_back-requires
barrier_back-requires c = record { l_in_bounds = omega (arith, c.requires.l_in_bounds, c.set_node.auto.w) }

pub shape_of-w : goal.shape_of-w
shape_of-w c = c.barrier_back.auto.w ∙ c.set_node.auto.w

pub returns : goal.returns
unfolding store_node
returns c = le_no _ _ _ _ _ (omega (arith, c.node_count.ensures.0, c.if-node_count-j.false)) (rw (← c.is_taken.ensures, c.if-is_taken.false, ← c.is_sound.ensures, c.if-not-is_sound.false, ← c.is_sound-2.ensures, c.if-not-is_sound-2.false, ← c.set_node.ensures, ← c.barrier_back.ensures))
