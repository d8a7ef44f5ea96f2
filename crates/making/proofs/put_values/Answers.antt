-- `making::put_values` meets its contract: what is left of the loop gives the whole. Assumes nothing.
use mathlib.Core.Path.{◌∙◌, refl}
use native.Mathlib.Omega.{arith}
use Rattle.base.specs.Loop.{run_again, run_end}
use Rattle.making.specs.Making.{put_one, put_values}
use Rattle.making.proofs.put_values.Goals as goal

pub loop-k-init : goal.loop-k-init
loop-k-init c = record { rest = refl; long = refl }

pub overflow_mul-k : goal.overflow_mul-k
overflow_mul-k c = omega (arith, c.loop-k-test.true, c.requires)

pub overflow_add-p : goal.overflow_add-p
overflow_add-p c = omega (arith, c.loop-k-test.true, c.requires)

pub overflow_mul-k-in-loop-k : goal.overflow_mul-k-in-loop-k
overflow_mul-k-in-loop-k c = omega (arith, c.loop-k-test.true, c.requires)

pub read_value-requires : goal.read_value-requires
read_value-requires c = omega (arith, c.loop-k-test.true, c.requires)

pub write_value-requires : goal.write_value-requires
write_value-requires c = omega (arith, c.loop-k-test.true, c.requires, c.loop-k.invariant.long)

pub loop-k-preserved : goal.loop-k-preserved
unfolding put_one
loop-k-preserved c = record { rest = run_again _ c.loop-k.invariant.rest c.loop-k-test.true (rw (← c.read_value.ensures) c.write_value.ensures); long = c.write_value.auto.w ∙ c.loop-k.invariant.long }

pub shape_of-w : goal.shape_of-w
shape_of-w c = c.loop-k.invariant.long

pub returns : goal.returns
unfolding put_values
returns c = run_end _ c.loop-k.invariant.rest c.loop-k-test.false
