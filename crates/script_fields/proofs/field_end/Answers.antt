-- `script_fields::field_end` meets its contract: what is left of the loop gives the whole. Assumes nothing.
use native.Mathlib.Omega.{arith}
use mathlib.Core.Path.{◌≡◌, refl}
use Rattle.script_fields.specs.Laws.{space_again, space_found, space_end}
use Rattle.script_fields.proofs.field_end.Goals as goal

pub loop-i-init : goal.loop-i-init
loop-i-init c = (refl, omega arith)

pub returns-then-line-i-eq32 : goal.returns-then-line-i-eq32
returns-then-line-i-eq32 c = (space_found _ _ c.loop-i.invariant.0 c.loop-i-test.true c.if-line-i-eq32.true, record { from = omega arith; most = λ h. omega arith })

pub loop-i-preserved : goal.loop-i-preserved
loop-i-preserved c = (space_again _ _ c.loop-i.invariant.0 c.loop-i-test.true c.if-line-i-eq32.false, omega arith)

pub returns : goal.returns
returns c =
    let e : c.max.result ≡ c.loop-i.i = omega arith in
    (rw e (space_end _ _ c.loop-i.invariant.0 c.loop-i-test.false), record { from = omega arith; most = λ h. omega arith })
