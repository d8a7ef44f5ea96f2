-- `arena::occupied_of` meets its contract: what is left of the loop gives the whole. Assumes nothing.
use Rattle.std.proofs.Common.{refl, arith}
use Rattle.arena.specs.Slots.{occupied}
use Rattle.base.specs.Loop.{run_again, run_end}
use Rattle.arena.proofs.occupied_of.Goals as goal

pub loop-i-init : goal.loop-i-init
loop-i-init c = (refl, omega arith)

pub loop-i-preserved : goal.loop-i-preserved
loop-i-preserved c = (run_again _ c.loop-i.invariant.0 (omega arith) c.tally-n.ensures.0, omega arith)

pub returns : goal.returns
unfolding occupied
returns c = rw (← c.used_of-end.ensures.0) (run_end _ c.loop-i.invariant.0 (omega arith))
