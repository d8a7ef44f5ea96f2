-- `closures::put_upvalues` meets its contract: what is left of the loop gives the whole. Assumes nothing.
use mathlib.Core.Path.{◌∙◌, refl}
use native.Mathlib.Omega.{arith}
use Rattle.base.specs.Loop.{run_again, run_end}
use Rattle.closures.specs.Closures.{put_upvalue, put_upvalues}
use Rattle.closures.proofs.put_upvalues.Goals as goal

pub loop-k-init : goal.loop-k-init
loop-k-init c = record { rest = refl; long = refl }

pub overflow_mul-k : goal.overflow_mul-k
overflow_mul-k c = omega (arith, c.loop-k-test.true, c.requires)

pub overflow_add-p : goal.overflow_add-p
overflow_add-p c = omega (arith, c.loop-k-test.true, c.requires)

pub overflow_mul-k-in-loop-k : goal.overflow_mul-k-in-loop-k
overflow_mul-k-in-loop-k c = omega (arith, c.loop-k-test.true, c.requires)

pub read_upval-requires : goal.read_upval-requires
read_upval-requires c = omega (arith, c.loop-k-test.true, c.requires)

pub write_upval-requires : goal.write_upval-requires
write_upval-requires c = omega (arith, c.loop-k-test.true, c.requires, c.loop-k.invariant.long)

pub loop-k-preserved : goal.loop-k-preserved
unfolding put_upvalue
loop-k-preserved c = record { rest = run_again _ c.loop-k.invariant.rest c.loop-k-test.true (rw c.read_upval.ensures at c.write_upval.ensures); long = c.write_upval.auto.w ∙ c.loop-k.invariant.long }

pub shape_of-w : goal.shape_of-w
shape_of-w c = c.loop-k.invariant.long

pub returns : goal.returns
unfolding put_upvalues
returns c = run_end _ c.loop-k.invariant.rest c.loop-k-test.false
