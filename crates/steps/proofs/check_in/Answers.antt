-- `steps::check_in` meets its contract: the callees' equations joined. Assumes nothing.
use native.Mathlib.Omega.{arith}
use Rattle.laid.specs.Laid.{laid_of}
use Rattle.run_walk.proofs.Laws.{parts_in}
use Rattle.steps.specs.Steps.{check_in}
use Rattle.steps.proofs.check_in.Goals as goal

pub is_due-requires : goal.is_due-requires
is_due-requires c = omega (arith, (parts_in (laid_of _ c.args.l.fits) c.requires.l_in_bounds).header)

pub limited-requires : goal.limited-requires
limited-requires c = omega (arith, (parts_in (laid_of _ c.args.l.fits) c.requires.l_in_bounds).header, c.automatic-a.auto.w)

pub returns-then-is_due : goal.returns-then-is_due
unfolding check_in
returns-then-is_due c = rw (← c.is_due.ensures, c.if-is_due.true, ← c.automatic-a.ensures, ← c.limited.ensures)

pub limited-requires-2 : goal.limited-requires-2
limited-requires-2 c = omega (arith, (parts_in (laid_of _ c.args.l.fits) c.requires.l_in_bounds).header)

pub returns : goal.returns
unfolding check_in
returns c = rw (← c.is_due.ensures, c.if-is_due.false, ← c.limited-2.ensures)
