-- `steps::single_in` meets its contract: the callees' equations joined. Assumes nothing.
use native.Mathlib.Omega.{arith}
use Rattle.laid.specs.Laid.{laid_of}
use Rattle.run_walk.proofs.Laws.{parts_in}
use Rattle.steps.specs.Steps.{single_in}
use Rattle.steps.proofs.single_in.Goals as goal

pub is_out-requires : goal.is_out-requires
is_out-requires c = omega (arith, (parts_in (laid_of _ c.args.l.fits) c.requires.l_in_bounds).header)

pub returns-then-is_out : goal.returns-then-is_out
unfolding single_in
returns-then-is_out c = rw (← c.is_out.ensures, c.if-is_out.true)

pub hand-requires : goal.hand-requires
hand-requires c = omega (arith, (parts_in (laid_of _ c.args.l.fits) c.requires.l_in_bounds).header, c.single_step.auto.w)

pub returns-in-Cost : goal.returns-in-Cost
unfolding single_in
returns-in-Cost c = rw (← c.is_out.ensures, c.if-is_out.false, ← c.single_step.ensures.0, c.in-Cost.is)

pub returns-in-Out : goal.returns-in-Out
unfolding single_in
returns-in-Out c = rw (← c.is_out.ensures, c.if-is_out.false, ← c.single_step.ensures.0, c.in-Out.is, ← c.hand.ensures)
