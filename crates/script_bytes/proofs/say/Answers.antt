-- `script_bytes::say` meets its contract: what is left of the loop gives the whole. Assumes nothing.
use native.Mathlib.Omega.{arith}
use mathlib.Core.Path.{refl, ◌∙◌}
use Rattle.script_bytes.specs.Laws.{said_from, said_again, said_end}
use Rattle.script_bytes.proofs.say.Goals as goal

pub loop-i-init : goal.loop-i-init
unfolding said_from
loop-i-init c = (refl, refl)

pub loop-i-preserved : goal.loop-i-preserved
loop-i-preserved c = (said_again _ _ _ c.loop-i.invariant.0 (omega (arith, c.loop-i-test.true)) c.keep-p.ensures, c.keep-p.auto.out ∙ c.loop-i.invariant.1)

pub shape_of-out : goal.shape_of-out
shape_of-out c = c.loop-i.invariant.1

pub returns : goal.returns
returns c = said_end _ _ _ c.loop-i.invariant.0 c.loop-i-test.false
