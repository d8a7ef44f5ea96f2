-- `clearing::clear_entries` meets its contract: the callees' equations joined. Assumes nothing.
use mathlib.Core.Path.{◌∙◌}
use native.Mathlib.Omega.{arith}
use Rattle.clearing.specs.Entries.{clear_entries}
use Rattle.clearing.proofs.clear_entries.Goals as goal

pub array_size-n-requires : goal.array_size-n-requires
array_size-n-requires c = c.requires.p_in_bounds

pub node_count-k-requires : goal.node_count-k-requires
node_count-k-requires c = c.requires.p_in_bounds

pub overflow_add-p : goal.overflow_add-p
overflow_add-p c = omega arith

pub clear_array-requires : goal.clear_array-requires
clear_array-requires c = record { l_in_bounds = c.requires.l_in_bounds; n_in_bounds = omega (arith, c.requires.p_in_bounds, c.array_size-n.ensures.1) }

pub overflow_add-p-2 : goal.overflow_add-p-2
overflow_add-p-2 c = omega arith

pub overflow_mul-n : goal.overflow_mul-n
overflow_mul-n c = omega (arith, c.array_size-n.ensures.1)

pub overflow_add-p-3 : goal.overflow_add-p-3
overflow_add-p-3 c = omega (arith, c.array_size-n.ensures.1)

pub clear_nodes-requires : goal.clear_nodes-requires
clear_nodes-requires c = record { l_in_bounds = omega (arith, c.requires.l_in_bounds, c.clear_array.auto.w); n_in_bounds = omega (arith, c.requires.p_in_bounds, c.array_size-n.ensures.1, c.node_count-k.ensures.1, c.clear_array.auto.w) }

pub shape_of-w : goal.shape_of-w
shape_of-w c = c.clear_nodes.auto.w ∙ c.clear_array.auto.w

pub returns : goal.returns
unfolding clear_entries
returns c = rw (← c.array_size-n.ensures.0, ← c.node_count-k.ensures.0, ← c.clear_array.ensures) c.clear_nodes.ensures
