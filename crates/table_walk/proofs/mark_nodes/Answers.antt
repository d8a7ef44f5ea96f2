-- `table_walk::mark_nodes` meets its contract: what is left of the loop gives the whole. Assumes nothing.
use mathlib.Core.Path.{refl, ◌∙◌}
use native.Mathlib.Omega.{arith}
use Rattle.base.specs.Loop.{run_again, run_end}
use Rattle.table_walk.specs.Tables.{mark_nodes}
use Rattle.table_walk.proofs.mark_nodes.Goals as goal

pub loop-j-init : goal.loop-j-init
loop-j-init c = record { rest = refl; long = refl }

pub overflow_mul-j : goal.overflow_mul-j
overflow_mul-j c = omega (arith, c.loop-j-test.true, c.requires.n_in_bounds)

pub overflow_add-q : goal.overflow_add-q
overflow_add-q c = omega (arith, c.loop-j-test.true, c.requires.n_in_bounds)

pub mark_node-requires : goal.mark_node-requires
mark_node-requires c = record { l_in_bounds = rw c.loop-j.invariant.long c.requires.l_in_bounds; q_in_bounds = omega (arith, c.loop-j.invariant.long, c.loop-j-test.true, c.requires.n_in_bounds) }

pub loop-j-preserved : goal.loop-j-preserved
loop-j-preserved c = record { rest = run_again _ c.loop-j.invariant.rest c.loop-j-test.true c.mark_node.ensures; long = c.mark_node.auto.w ∙ c.loop-j.invariant.long }

pub shape_of-w : goal.shape_of-w
shape_of-w c = c.loop-j.invariant.long

pub returns : goal.returns
unfolding mark_nodes
returns c = run_end _ c.loop-j.invariant.rest c.loop-j-test.false
