-- `mark::mark_upvalues` meets its contract: what is left of the loop gives the whole. Assumes nothing.
use mathlib.Core.Path.{refl, ◌∙◌}
use native.Mathlib.Omega.{arith}
use Rattle.base.specs.Loop.{run_again, run_end}
use Rattle.mark.specs.Marking.{mark_upvalues}
use Rattle.mark.proofs.mark_upvalues.Goals as goal

pub loop-i-init : goal.loop-i-init
loop-i-init c = record { rest = refl; long = refl }

pub overflow_mul-i : goal.overflow_mul-i
overflow_mul-i c = omega arith

pub overflow_add-p : goal.overflow_add-p
overflow_add-p c = omega arith

pub mark_upvalue_at-requires : goal.mark_upvalue_at-requires
mark_upvalue_at-requires c = record { l_in_bounds = omega (arith, c.requires.l_in_bounds, c.loop-i.invariant.long); p_in_bounds = omega (arith, c.requires.n_in_bounds, c.loop-i.invariant.long, c.loop-i-test.true) }

pub loop-i-preserved : goal.loop-i-preserved
loop-i-preserved c = record { rest = run_again _ c.loop-i.invariant.rest c.loop-i-test.true c.mark_upvalue_at.ensures; long = c.mark_upvalue_at.auto.w ∙ c.loop-i.invariant.long }

pub shape_of-w : goal.shape_of-w
shape_of-w c = c.loop-i.invariant.long

pub returns : goal.returns
unfolding mark_upvalues
returns c = run_end _ c.loop-i.invariant.rest c.loop-i-test.false
