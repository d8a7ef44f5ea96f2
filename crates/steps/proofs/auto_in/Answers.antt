-- `steps::auto_in` meets its contract: the callees' equations joined. Assumes nothing.
use native.Mathlib.Omega.{arith}
use Rattle.laid.specs.Laid.{laid_of}
use Rattle.run_walk.proofs.Laws.{parts_in}
use Rattle.steps.specs.Steps.{auto_in}
use Rattle.steps.proofs.auto_in.Goals as goal

pub grow_debt-requires : goal.grow_debt-requires
grow_debt-requires c = omega (arith, (parts_in (laid_of _ c.args.l.fits) c.requires.l_in_bounds).header)

pub get-stepmul-requires : goal.get-stepmul-requires
get-stepmul-requires c = omega (arith, (parts_in (laid_of _ c.args.l.fits) c.requires.l_in_bounds).header, c.grow_debt.auto.w)

pub returns : goal.returns
unfolding auto_in
returns c = rw (← c.grow_debt.ensures, ← c.get-stepmul.ensures, ← c.automatic_budget.ensures) c.budget_in.ensures
