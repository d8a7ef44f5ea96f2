-- `held::nodes_name` meets its contract: the turns from here on answer what all do. Assumes nothing.
use mathlib.Core.Path.{◌∙◌, sym}
use native.Mathlib.Omega.{arith}
use Rattle.making.specs.Turns.{each_again, each_stop, turns_end, turns_start}
use Rattle.held.specs.Held.{nodes_name}
use Rattle.held.proofs.nodes_name.Goals as goal

pub loop-j-init : goal.loop-j-init
loop-j-init c = turns_start _ _ _ _ c.node_count-n.ensures.0

pub node_names-requires : goal.node_names-requires
node_names-requires c = record { l_in_bounds = c.requires.l_in_bounds; p_in_bounds = (c.requires.p_in_bounds, omega (arith, c.loop-j-test.true, c.node_count-n.ensures.1)) }

pub returns-then-not-node_names : goal.returns-then-not-node_names
unfolding nodes_name
returns-then-not-node_names c = each_stop _ _ _ c.loop-j.invariant c.loop-j-test.true (sym c.node_names.ensures ∙ c.if-not-node_names.true)

pub loop-j-preserved : goal.loop-j-preserved
loop-j-preserved c = each_again _ _ _ c.loop-j.invariant c.loop-j-test.true (sym c.node_names.ensures ∙ c.if-not-node_names.false)

pub returns : goal.returns
unfolding nodes_name
returns c = turns_end _ _ _ _ c.loop-j.invariant c.loop-j-test.false
