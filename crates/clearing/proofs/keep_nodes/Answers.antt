-- `clearing::keep_nodes` meets its contract: what is left of the loop gives the whole. Assumes nothing.
use mathlib.Core.Path.{refl, ◌∙◌}
use native.Mathlib.Omega.{arith}
use Rattle.base.specs.Loop.{run_again, run_end}
use Rattle.clearing.specs.Strings.{keep_nodes}
use Rattle.clearing.proofs.keep_nodes.Goals as goal

pub loop-j-init : goal.loop-j-init
loop-j-init c = record { rest = refl; long = refl }

pub overflow_mul-j : goal.overflow_mul-j
overflow_mul-j c = omega arith

pub overflow_add-q : goal.overflow_add-q
overflow_add-q c = omega arith

pub keep_node-requires : goal.keep_node-requires
keep_node-requires c = record { l_in_bounds = omega (arith, c.requires.l_in_bounds, c.loop-j.invariant.long); q_in_bounds = omega (arith, c.requires.n_in_bounds, c.loop-j.invariant.long, c.loop-j-test.true) }

pub loop-j-preserved : goal.loop-j-preserved
loop-j-preserved c = record { rest = run_again _ c.loop-j.invariant.rest c.loop-j-test.true c.keep_node.ensures; long = c.keep_node.auto.w ∙ c.loop-j.invariant.long }

pub shape_of-w : goal.shape_of-w
shape_of-w c = c.loop-j.invariant.long

pub returns : goal.returns
unfolding keep_nodes
returns c = run_end _ c.loop-j.invariant.rest c.loop-j-test.false
