-- `pace::turn` meets its contract: the callees' equations joined. Assumes nothing.
use native.Mathlib.Omega.{arith}
use Rattle.laid.specs.Laid.{laid_of}
use Rattle.run_walk.proofs.Laws.{parts_in}
use Rattle.pace.specs.Pace.{turn}
use Rattle.pace.proofs.turn.Goals as goal

pub after_cost-requires : goal.after_cost-requires
after_cost-requires c = omega (arith, (parts_in (laid_of _ c.args.l.fits) c.requires.l_in_bounds).header, c.single_step.auto.w)

pub hand-requires : goal.hand-requires
hand-requires c = omega (arith, (parts_in (laid_of _ c.args.l.fits) c.requires.l_in_bounds).header, c.single_step.auto.w)

pub returns-in-Cost : goal.returns-in-Cost
unfolding turn
returns-in-Cost c = rw (← c.single_step.ensures.0, c.in-Cost.is, ← c.after_cost.ensures)

pub returns-in-Out : goal.returns-in-Out
unfolding turn
returns-in-Out c = rw (← c.single_step.ensures.0, c.in-Out.is, ← c.hand.ensures)
