-- `sweep_step::arena_at` meets its contract: each way by its test. Assumes nothing.
use native.Mathlib.Omega.{arith}
use Rattle.base.specs.Ways.{eq_yes, eq_no}
use Rattle.sweep_step.specs.Sweeping.{arena_at}
use Rattle.sweep_step.proofs.arena_at.Goals as goal

pub returns-in-0 : goal.returns-in-0
unfolding arena_at
returns-in-0 c = eq_yes _ _ _ _ _ (omega arith) c.tables_of.ensures

pub returns-in-1 : goal.returns-in-1
unfolding arena_at
returns-in-1 c = eq_no _ _ _ _ _ (λ e. omega arith) (eq_yes _ _ _ _ _ (omega arith) c.functions_of.ensures)

pub returns-in-2 : goal.returns-in-2
unfolding arena_at
returns-in-2 c = eq_no _ _ _ _ _ (λ e. omega arith) (eq_no _ _ _ _ _ (λ e. omega arith) (eq_yes _ _ _ _ _ (omega arith) c.upvalues_of.ensures))

pub returns-in-3 : goal.returns-in-3
unfolding arena_at
returns-in-3 c = eq_no _ _ _ _ _ (λ e. omega arith) (eq_no _ _ _ _ _ (λ e. omega arith) (eq_no _ _ _ _ _ (λ e. omega arith) (eq_yes _ _ _ _ _ (omega arith) c.userdata_of.ensures)))

pub returns-in_default : goal.returns-in_default
unfolding arena_at
returns-in_default c = eq_no _ _ _ _ _ (λ e. omega arith) (eq_no _ _ _ _ _ (λ e. omega arith) (eq_no _ _ _ _ _ (λ e. omega arith) (eq_no _ _ _ _ _ (λ e. omega arith) (c.threads_of.ensures))))
