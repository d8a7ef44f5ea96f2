-- `record::strings::text_put` meets its contract: what is left of the loop gives the whole. Assumes nothing.
use lib.ListN.{length-set}
use mathlib.Core.Path.{refl}
use native.Mathlib.Omega.{arith}
use Rattle.base.specs.Loop.{run_again, run_end}
use Rattle.record.specs.Strings.{text_put}
use Rattle.record.proofs.strings.text_put.Goals as goal

pub loop-k-init : goal.loop-k-init
loop-k-init c = (refl, refl)

pub loop-k-preserved : goal.loop-k-preserved
loop-k-preserved c = (run_again _ c.loop-k.invariant.0 (omega arith) refl, simp length-set c.loop-k.invariant.1)

pub returns : goal.returns
unfolding text_put
returns c = run_end _ c.loop-k.invariant.0 (omega arith)
