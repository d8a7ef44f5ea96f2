-- `propagate::mark_types` meets its contract: what is left of the loop gives the whole. Assumes nothing.
use mathlib.Core.Path.{refl, ◌∙◌}
use native.Mathlib.Omega.{arith}
use Rattle.base.specs.Loop.{run_again, run_end}
use Rattle.propagate.specs.Roots.{mark_types}
use Rattle.propagate.proofs.mark_types.Goals as goal

pub loop-k-init : goal.loop-k-init
loop-k-init c = record { rest = refl; long = refl }

pub mark_type-requires : goal.mark_type-requires
mark_type-requires c = record { l_in_bounds = omega (arith, c.requires.l_in_bounds, c.loop-k.invariant.long); k_bound = c.loop-k-test.true }

pub loop-k-preserved : goal.loop-k-preserved
loop-k-preserved c = record { rest = run_again _ c.loop-k.invariant.rest c.loop-k-test.true c.mark_type.ensures; long = c.mark_type.auto.w ∙ c.loop-k.invariant.long }

pub shape_of-w : goal.shape_of-w
shape_of-w c = c.loop-k.invariant.long

pub returns : goal.returns
unfolding mark_types
returns c = run_end _ c.loop-k.invariant.rest c.loop-k-test.false
