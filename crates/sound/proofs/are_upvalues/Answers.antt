-- `sound::are_upvalues` meets its contract: the turns from here on answer what all do. Assumes nothing.
use mathlib.Core.Path.{◌∙◌, refl, sym}
use native.Mathlib.Omega.{arith}
use Rattle.making.specs.Turns.{each_again, each_stop, turns_end, turns_start}
use Rattle.sound.specs.Sound.{are_upvalues, upvalue_at}
use Rattle.sound.proofs.are_upvalues.Goals as goal

pub loop-k-init : goal.loop-k-init
loop-k-init c = turns_start _ _ _ _ refl

pub overflow_mul-k : goal.overflow_mul-k
overflow_mul-k c = omega (arith, c.loop-k-test.true, c.requires.n_in_bounds)

pub read_upval-requires : goal.read_upval-requires
read_upval-requires c = omega (arith, c.loop-k-test.true, c.requires.n_in_bounds)

pub is_upvalue-requires : goal.is_upvalue-requires
is_upvalue-requires c = record { l_in_bounds = c.requires.l_in_bounds }

pub returns-then-not-is_upvalue : goal.returns-then-not-is_upvalue
unfolding are_upvalues upvalue_at
returns-then-not-is_upvalue c = each_stop _ _ _ c.loop-k.invariant c.loop-k-test.true (sym (rw c.read_upval.ensures at c.is_upvalue.ensures) ∙ c.if-not-is_upvalue.true)

pub loop-k-preserved : goal.loop-k-preserved
unfolding upvalue_at
loop-k-preserved c = each_again _ _ _ c.loop-k.invariant c.loop-k-test.true (sym (rw c.read_upval.ensures at c.is_upvalue.ensures) ∙ c.if-not-is_upvalue.false)

pub returns : goal.returns
unfolding are_upvalues upvalue_at
returns c = turns_end _ _ _ _ c.loop-k.invariant c.loop-k-test.false
