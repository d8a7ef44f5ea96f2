-- `make_protos::is_first` meets its contract: the turns from here on answer what all do. Assumes nothing.
use mathlib.Core.Path.{refl}
use native.Mathlib.Omega.{arith}
use borrow.Author.Tests.{eq-eqb, ne_eqb}
use Rattle.making.specs.Turns.{each_again, each_stop, turns_end, turns_start}
use Rattle.make_protos.specs.Making.{differs, is_first}
use Rattle.make_protos.proofs.is_first.Goals as goal

pub loop-j-init : goal.loop-j-init
loop-j-init c = turns_start _ _ _ _ refl

pub offset_bounds-s-j : goal.offset_bounds-s-j
offset_bounds-s-j c = omega (arith, c.loop-j-test.true, c.requires)

pub bounds-s-j : goal.bounds-s-j
bounds-s-j c = omega (arith, c.loop-j-test.true, c.requires)

pub offset_bounds-s-k : goal.offset_bounds-s-k
offset_bounds-s-k c = omega (arith, c.loop-j-test.true, c.requires)

pub bounds-s-k : goal.bounds-s-k
bounds-s-k c = omega (arith, c.loop-j-test.true, c.requires)

pub returns-then-s-j : goal.returns-then-s-j
unfolding is_first differs
returns-then-s-j c = each_stop _ _ _ c.loop-j.invariant c.loop-j-test.true (rw (eq-eqb _ _ c.if-s-j.true))

pub loop-j-preserved : goal.loop-j-preserved
unfolding differs
loop-j-preserved c = each_again _ _ _ c.loop-j.invariant c.loop-j-test.true (rw (ne_eqb _ _ c.if-s-j.false))

pub returns : goal.returns
unfolding is_first
returns c = turns_end _ _ _ _ c.loop-j.invariant c.loop-j-test.false
