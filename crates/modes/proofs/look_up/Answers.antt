-- `modes::look_up` meets its contract: what is left of the loop gives the whole. Assumes nothing.
use mathlib.Core.Path.{◌∙◌}
use native.Mathlib.Omega.{arith}
use Rattle.modes.specs.Modes.{look_start, look_again, look_found, look_end}
use Rattle.modes.proofs.look_up.Goals as goal

pub loop-j-init : goal.loop-j-init
loop-j-init c = look_start _ _ _ _ c.node_count-n.ensures.0

pub node_key-requires : goal.node_key-requires
node_key-requires c = record { p_in_bounds = c.requires; j_bound = omega (arith, c.node_count-n.ensures.1, c.loop-j-test.true) }

pub node_value-requires : goal.node_value-requires
node_value-requires c = record { p_in_bounds = c.requires; j_bound = omega (arith, c.node_count-n.ensures.1, c.loop-j-test.true) }

pub returns-then-key_equal : goal.returns-then-key_equal
returns-then-key_equal c = c.node_value.ensures ∙ look_found _ _ _ _ _ c.loop-j.invariant c.loop-j-test.true (rw (← c.node_key.ensures, ← c.key_equal.ensures) c.if-key_equal.true)

pub loop-j-preserved : goal.loop-j-preserved
loop-j-preserved c = look_again _ _ _ _ _ c.loop-j.invariant c.loop-j-test.true (rw (← c.node_key.ensures, ← c.key_equal.ensures) c.if-key_equal.false)

pub returns : goal.returns
returns c = look_end _ _ _ _ _ c.loop-j.invariant c.loop-j-test.false
