-- `clearing::keep_node` meets its contract: the callees' equations joined. Assumes nothing.
use mathlib.Core.Path.{refl, ◌∙◌}
use native.Mathlib.Omega.{arith}
use Rattle.clearing.specs.Strings.{keep_node}
use Rattle.clearing.proofs.keep_node.Goals as goal

pub is_nil_at-requires : goal.is_nil_at-requires
is_nil_at-requires c = omega (arith, c.requires.q_in_bounds)

pub shape_of-w-then-is_nil_at : goal.shape_of-w-then-is_nil_at
shape_of-w-then-is_nil_at c = refl

pub returns-then-is_nil_at : goal.returns-then-is_nil_at
unfolding keep_node
returns-then-is_nil_at c = rw (← c.is_nil_at.ensures, c.if-is_nil_at.true)

pub keep_string-requires : goal.keep_string-requires
keep_string-requires c = record { l_in_bounds = c.requires.l_in_bounds; p_in_bounds = omega (arith, c.requires.q_in_bounds) }

pub overflow_add-q : goal.overflow_add-q
overflow_add-q c = omega arith

pub keep_string-requires-2 : goal.keep_string-requires-2
keep_string-requires-2 c = record { l_in_bounds = omega (arith, c.requires.l_in_bounds, c.keep_string.auto.w); p_in_bounds = omega (arith, c.requires.q_in_bounds, c.keep_string.auto.w) }

pub shape_of-w : goal.shape_of-w
shape_of-w c = c.keep_string-2.auto.w ∙ c.keep_string.auto.w

pub returns : goal.returns
unfolding keep_node
returns c = rw (← c.is_nil_at.ensures, c.if-is_nil_at.false, ← c.keep_string.ensures) c.keep_string-2.ensures
