-- `make_protos::put_nested` meets its contract: what is left of the loop gives the whole. Assumes nothing.
use mathlib.Core.Path.{◌∙◌, refl}
use native.Mathlib.Omega.{arith}
use Rattle.base.specs.Loop.{run_again, run_end}
use Rattle.make_protos.specs.Making.{put_nested}
use Rattle.make_protos.proofs.put_nested.Goals as goal

pub loop-k-init : goal.loop-k-init
loop-k-init c = record { rest = refl; long = refl }

pub nest_one-requires : goal.nest_one-requires
nest_one-requires c = record { l_in_bounds = omega (arith, c.requires.l_in_bounds, c.loop-k.invariant.long); n_bound = (c.requires.n_bound.0, omega (arith, c.loop-k-test.true, c.requires.n_bound.1), c.loop-k-test.true); below = c.requires.below }

pub loop-k-preserved : goal.loop-k-preserved
loop-k-preserved c = record { rest = run_again _ c.loop-k.invariant.rest c.loop-k-test.true c.nest_one.ensures; long = c.nest_one.auto.w ∙ c.loop-k.invariant.long }

pub shape_of-w : goal.shape_of-w
shape_of-w c = c.loop-k.invariant.long

pub returns : goal.returns
unfolding put_nested
returns c = run_end _ c.loop-k.invariant.rest c.loop-k-test.false
