-- `step::finalize` meets its contract: the callees' equations joined. Assumes nothing.
use native.Mathlib.Omega.{arith}
use Rattle.laid.specs.Laid.{laid_of}
use Rattle.run_walk.proofs.Laws.{parts_in}
use Rattle.step.specs.Step.{finalize}
use Rattle.step.proofs.finalize.Goals as goal

pub lower_estimate-requires : goal.lower_estimate-requires
lower_estimate-requires c = (parts_in (laid_of _ c.args.l.fits) c.requires.l_in_bounds).header

pub returns-then-is_nil : goal.returns-then-is_nil
unfolding finalize
returns-then-is_nil c = (rw (← c.method_of-v.ensures, ← c.is_nil.ensures, c.if-is_nil.true, ← c.lower_estimate.ensures), omega arith)

pub hand_out-requires : goal.hand_out-requires
hand_out-requires c = (parts_in (laid_of _ c.args.l.fits) c.requires.l_in_bounds).header

pub returns-else-is_nil : goal.returns-else-is_nil
unfolding finalize
returns-else-is_nil c = (rw (← c.method_of-v.ensures, ← c.is_nil.ensures, c.if-is_nil.false, ← c.hand_out.ensures), tt)
