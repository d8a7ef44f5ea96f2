-- `step::finalize_step` meets its contract: the callees' equations joined. Assumes nothing.
use native.Mathlib.Omega.{arith}
use Rattle.laid.specs.Laid.{queue_room_lem, laid_of}
use Rattle.run_walk.proofs.Laws.{parts_in}
use Rattle.step.specs.Step.{finalize_step}
use Rattle.step.proofs.finalize_step.Goals as goal

pub pop-requires : goal.pop-requires
pop-requires c = rw c.queue_of.ensures (queue_room_lem _ _ (laid_of _ c.args.l.fits) c.requires.l_in_bounds)

pub end_cycle-requires : goal.end_cycle-requires
end_cycle-requires c = omega (arith, (parts_in (laid_of _ c.args.l.fits) c.requires.l_in_bounds).header, c.pop.auto.w)

pub returns-in-Some : goal.returns-in-Some
unfolding finalize_step
returns-in-Some c = (rw (← (rw c.queue_of.ensures at c.pop.ensures), c.in-Some.is) c.finalize_item.ensures.0, c.finalize_item.ensures.1)

pub returns-in-None : goal.returns-in-None
unfolding finalize_step
returns-in-None c = (rw (← (rw c.queue_of.ensures at c.pop.ensures), c.in-None.is, ← c.end_cycle.ensures), omega arith)
