-- `steps::resume` meets its contract: each way by its test. Assumes nothing.
use mathlib.Core.Path.{refl}
use native.Mathlib.Omega.{arith}
use Rattle.run_walk.proofs.Laws.{parts_in}
use Rattle.base.specs.Ways.{eq_yes, eq_no}
use Rattle.laid.specs.Laid.{laid_of}
use Rattle.steps.specs.Steps.{resumed}
use Rattle.steps.proofs.resume.Goals as goal

pub limited-requires : goal.limited-requires
limited-requires c = omega (arith, (parts_in (laid_of _ c.args.l.fits) c.requires.l_in_bounds).header, c.steps_on-a.auto.w)

pub returns-in-1 : goal.returns-in-1
unfolding resumed
returns-in-1 c = eq_yes _ _ _ _ _ c.in-1.is refl

pub returns-in-2 : goal.returns-in-2
unfolding resumed
returns-in-2 c = eq_no _ _ _ _ _ (λ e. omega (arith, c.in-2.is)) (eq_yes _ _ _ _ _ c.in-2.is c.steps_on.ensures)

pub returns-in-3 : goal.returns-in-3
unfolding resumed
returns-in-3 c = eq_no _ _ _ _ _ (λ e. omega (arith, c.in-3.is)) (eq_no _ _ _ _ _ (λ e. omega (arith, c.in-3.is)) (eq_yes _ _ _ _ _ c.in-3.is (rw (← c.steps_on-a.ensures, ← c.limited.ensures))))

pub returns-in-4 : goal.returns-in-4
unfolding resumed
returns-in-4 c = eq_no _ _ _ _ _ (λ e. omega (arith, c.in-4.is)) (eq_no _ _ _ _ _ (λ e. omega (arith, c.in-4.is)) (eq_no _ _ _ _ _ (λ e. omega (arith, c.in-4.is)) (eq_yes _ _ _ _ _ c.in-4.is c.full_first.ensures)))

pub returns-in_default : goal.returns-in_default
unfolding resumed
returns-in_default c = eq_no _ _ _ _ _ (λ e. omega (arith)) (eq_no _ _ _ _ _ (λ e. omega (arith)) (eq_no _ _ _ _ _ (λ e. omega (arith)) (eq_no _ _ _ _ _ (λ e. omega (arith)) c.full_second.ensures)))
