-- `step::single_step` meets its contract: each way by its test. Assumes nothing.
use mathlib.Core.Path.{sym, ◌∙◌}
use native.Mathlib.Omega.{arith}
use Rattle.base.specs.Ways.{eq_yes, eq_no}
use Rattle.laid.specs.Laid.{laid_of}
use Rattle.run_walk.proofs.Laws.{parts_in}
use Rattle.step.specs.Step.{single_step}
use Rattle.step.proofs.single_step.Goals as goal

pub get-phase-requires : goal.get-phase-requires
get-phase-requires c = omega (arith, (parts_in (laid_of _ c.args.l.fits) c.requires.l_in_bounds).header)

pub returns-in-0 : goal.returns-in-0
unfolding single_step
returns-in-0 c = (eq_yes _ _ _ _ _ (sym c.get-phase.ensures ∙ c.in-0.is) (rw (← c.start_cycle.ensures)), omega arith)

pub returns-in-1 : goal.returns-in-1
unfolding single_step
returns-in-1 c = (eq_no _ _ _ _ _ (λ e. omega (arith, c.get-phase.ensures, c.in-1.is)) (eq_yes _ _ _ _ _ (sym c.get-phase.ensures ∙ c.in-1.is) (rw (← c.propagate_step.ensures.0))), c.propagate_step.ensures.1)

pub returns-in-2 : goal.returns-in-2
unfolding single_step
returns-in-2 c = (eq_no _ _ _ _ _ (λ e. omega (arith, c.get-phase.ensures, c.in-2.is)) (eq_no _ _ _ _ _ (λ e. omega (arith, c.get-phase.ensures, c.in-2.is)) (eq_yes _ _ _ _ _ (sym c.get-phase.ensures ∙ c.in-2.is) (rw (← c.sweep_strings_step.ensures)))), omega arith)

pub returns-in-3 : goal.returns-in-3
unfolding single_step
returns-in-3 c = (eq_no _ _ _ _ _ (λ e. omega (arith, c.get-phase.ensures, c.in-3.is)) (eq_no _ _ _ _ _ (λ e. omega (arith, c.get-phase.ensures, c.in-3.is)) (eq_no _ _ _ _ _ (λ e. omega (arith, c.get-phase.ensures, c.in-3.is)) (eq_yes _ _ _ _ _ (sym c.get-phase.ensures ∙ c.in-3.is) (rw (← c.sweep_other_step.ensures))))), omega arith)

pub returns-in_default : goal.returns-in_default
unfolding single_step
returns-in_default c = (eq_no _ _ _ _ _ (λ e. omega (arith, c.get-phase.ensures)) (eq_no _ _ _ _ _ (λ e. omega (arith, c.get-phase.ensures)) (eq_no _ _ _ _ _ (λ e. omega (arith, c.get-phase.ensures)) (eq_no _ _ _ _ _ (λ e. omega (arith, c.get-phase.ensures)) (rw (← c.finalize_step.ensures.0))))), c.finalize_step.ensures.1)
