-- `steps::budget_in` meets its contract: the callees' equations joined. Assumes nothing.
use native.Mathlib.Omega.{arith}
use Rattle.laid.specs.Laid.{laid_of}
use Rattle.run_walk.proofs.Laws.{parts_in}
use Rattle.steps.specs.Steps.{budget_in}
use Rattle.steps.proofs.budget_in.Goals as goal

pub is_out-requires : goal.is_out-requires
is_out-requires c = omega (arith, (parts_in (laid_of _ c.args.l.fits) c.requires.l_in_bounds).header)

pub returns-then-is_out : goal.returns-then-is_out
unfolding budget_in
returns-then-is_out c = rw (← c.is_out.ensures, c.if-is_out.true)

pub returns : goal.returns
unfolding budget_in
returns c = rw (← c.is_out.ensures, c.if-is_out.false) c.budgeted.ensures
