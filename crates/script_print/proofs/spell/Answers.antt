-- `script_print::spell` meets its contract: what is left of the loop gives the whole. Assumes nothing.
use native.Mathlib.Omega.{arith}
use mathlib.Core.Path.{◌≡◌, sym, ◌∙◌}
use lib.ListN.{length-set}
use Rattle.script_print.specs.Digits.{digits_start, digits_again, digits_last, digits_end}
use Rattle.script_print.proofs.spell.Goals as goal

pub loop-i-init : goal.loop-i-init
loop-i-init c = (digits_start 20 _ _ c.requires, c.requires)

pub shape_of-digits-then-rest-lt10 : goal.shape_of-digits-then-rest-lt10
shape_of-digits-then-rest-lt10 c = simp length-set (c.loop-i.invariant.1 ∙ sym c.requires)

pub returns-then-rest-lt10 : goal.returns-then-rest-lt10
returns-then-rest-lt10 c = (rw c.last_digit.ensures (digits_last _ _ _ c.loop-i.invariant.0 c.loop-i-test.true (omega (arith, c.loop-i.invariant.1)) c.loop-i.invariant.1 c.if-rest-lt10.true), omega arith)

pub loop-i-preserved : goal.loop-i-preserved
loop-i-preserved c = (rw c.last_digit.ensures (digits_again _ _ _ c.loop-i.invariant.0 c.loop-i-test.true (omega (arith, c.loop-i.invariant.1)) c.if-rest-lt10.false), simp length-set c.loop-i.invariant.1)

pub shape_of-digits : goal.shape_of-digits
shape_of-digits c = c.loop-i.invariant.1 ∙ sym c.requires

pub returns : goal.returns
returns c =
    let z : c.loop-i.i ≡ 0 = omega (arith, c.loop-i-test.false) in
    (rw z at (digits_end _ _ _ c.loop-i.invariant.0 c.loop-i-test.false c.loop-i.invariant.1), omega arith)
