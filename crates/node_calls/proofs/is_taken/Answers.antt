-- `node_calls::is_taken` meets its contract: what is left of the loop gives the whole. Assumes nothing.
use mathlib.Core.Path.{◌∙◌, sym}
use native.Mathlib.Omega.{arith}
use Rattle.making.specs.Turns.{turns_end, turns_start, turns_step}
use Rattle.node_calls.specs.NodeCalls.{is_taken, twin_turn}
use Rattle.node_calls.proofs.is_taken.Goals as goal

pub returns-then-is_nil : goal.returns-then-is_nil
unfolding is_taken
returns-then-is_nil c = rw (← c.is_nil.ensures, c.if-is_nil.true)

pub loop-i-init : goal.loop-i-init
unfolding is_taken
loop-i-init c = rw (sym c.is_nil.ensures ∙ c.if-is_nil.false) (turns_start _ _ _ _ c.node_count-n.ensures.0)

pub is_twin-requires : goal.is_twin-requires
is_twin-requires c = record { p_in_bounds = c.requires; i_bound = omega (arith, c.node_count-n.ensures.1, c.loop-i-test.true) }

pub returns-then-is_twin : goal.returns-then-is_twin
unfolding twin_turn
returns-then-is_twin c = rw (sym c.is_twin.ensures ∙ c.if-is_twin.true) at (turns_step _ _ _ _ c.loop-i.invariant c.loop-i-test.true)

pub loop-i-preserved : goal.loop-i-preserved
unfolding twin_turn
loop-i-preserved c = rw (sym c.is_twin.ensures ∙ c.if-is_twin.false) at (turns_step _ _ _ _ c.loop-i.invariant c.loop-i-test.true)

pub returns : goal.returns
returns c = turns_end _ _ _ _ c.loop-i.invariant c.loop-i-test.false
