-- `stacks::raise` meets its contract: what is left of the loop gives the whole. Assumes nothing.
use mathlib.Core.Path.{◌∙◌, refl}
use native.Mathlib.Omega.{arith}
use Rattle.base.specs.Loop.{run_again, run_end}
use Rattle.stacks.specs.Values.{raised}
use Rattle.stacks.proofs.raise.Goals as goal

pub loop-i-init : goal.loop-i-init
loop-i-init c = record { rest = refl; long = refl }

pub overflow_mul-i : goal.overflow_mul-i
overflow_mul-i c = omega arith

pub overflow_add-s : goal.overflow_add-s
overflow_add-s c = omega arith

pub write_value-requires : goal.write_value-requires
write_value-requires c = omega (arith, c.requires.holds.fits, c.requires.n_le_room, c.loop-i.invariant.long, c.loop-i-test.true)

pub loop-i-preserved : goal.loop-i-preserved
loop-i-preserved c = record { rest = run_again _ c.loop-i.invariant.rest c.loop-i-test.true c.write_value.ensures; long = c.write_value.auto.w ∙ c.loop-i.invariant.long }

pub shape_of-w : goal.shape_of-w
shape_of-w c = c.loop-i.invariant.long

pub returns : goal.returns
unfolding raised
returns c = run_end _ c.loop-i.invariant.rest c.loop-i-test.false
