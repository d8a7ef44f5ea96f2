-- `steps::steps_on` meets its contract: the callees' equations joined. Assumes nothing.
use native.Mathlib.Omega.{arith}
use Rattle.laid.specs.Laid.{laid_of}
use Rattle.run_walk.proofs.Laws.{parts_in}
use Rattle.steps.specs.Steps.{steps_on}
use Rattle.steps.proofs.steps_on.Goals as goal

pub after_cost-requires : goal.after_cost-requires
after_cost-requires c = omega (arith, (parts_in (laid_of _ c.args.l.fits) c.requires.l_in_bounds).header)

pub returns-in-Continue : goal.returns-in-Continue
unfolding steps_on
returns-in-Continue c = rw (← c.after_cost.ensures, c.in-Continue.is) c.budgeted.ensures

pub returns-in-Break : goal.returns-in-Break
unfolding steps_on
returns-in-Break c = rw (← c.after_cost.ensures, c.in-Break.is)
