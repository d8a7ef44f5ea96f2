-- `script_bytes::gather` meets its contract: what is left of the loop gives the whole. Assumes nothing.
use native.Mathlib.Omega.{arith}
use mathlib.Core.Path.{◌≡◌, refl, ◌∙◌}
use Rattle.script_bytes.specs.Laws.{gather_again, gather_whole, gather_end}
use Rattle.script_bytes.proofs.gather.Goals as goal

pub loop-i-init : goal.loop-i-init
loop-i-init c = (refl, refl, omega arith)

pub shape_of-line-then-c-eq10 : goal.shape_of-line-then-c-eq10
shape_of-line-then-c-eq10 c = c.loop-i.invariant.1

pub returns-then-c-eq10 : goal.returns-then-c-eq10
returns-then-c-eq10 c = gather_whole _ _ _ c.loop-i.invariant.0 c.loop-i-test.true c.if-c-eq10.true

pub loop-i-preserved : goal.loop-i-preserved
loop-i-preserved c = (gather_again _ _ _ c.loop-i.invariant.0 c.loop-i-test.true c.if-c-eq10.false c.keep-n.ensures, c.keep-n.auto.out ∙ c.loop-i.invariant.1, omega arith)

pub shape_of-line : goal.shape_of-line
shape_of-line c = c.loop-i.invariant.1

pub returns : goal.returns
returns c =
    let e : c.max.result ≡ c.loop-i.i = omega arith in
    rw e (gather_end _ _ _ c.loop-i.invariant.0 c.loop-i-test.false)
