-- `accounts::after_cost` meets its contract: each way by its test. Assumes nothing.
use mathlib.Core.Path.{refl}
use Rattle.base.specs.Ways.{eq_yes, eq_no, le_yes, le_no}
use Rattle.accounts.specs.Accounts.{after_cost}
use Rattle.accounts.proofs.after_cost.Goals as goal

pub returns-then-get-eq0 : goal.returns-then-get-eq0
unfolding after_cost
returns-then-get-eq0 c = eq_yes _ _ _ _ _ (rw c.get.ensures at c.if-get-eq0.true) (rw (← c.update_threshold.ensures))

pub returns-then-left-cost : goal.returns-then-left-cost
unfolding after_cost
returns-then-left-cost c = eq_no _ _ _ _ _ (rw c.get.ensures at c.if-get-eq0.false) (le_yes _ _ _ _ _ c.if-left-cost.true (rw (← c.step_ends.ensures)))

pub returns : goal.returns
unfolding after_cost
returns c = eq_no _ _ _ _ _ (rw c.get.ensures at c.if-get-eq0.false) (le_no _ _ _ _ _ c.if-left-cost.false refl)
