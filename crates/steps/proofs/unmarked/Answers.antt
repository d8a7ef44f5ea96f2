-- `steps::unmarked` meets its contract: each way by its test. Assumes nothing.
use mathlib.Core.Path.{refl}
use Rattle.base.specs.Ways.{eq_yes, eq_no}
use Rattle.steps.proofs.unmarked.Goals as goal

pub returns-then-get-eq0 : goal.returns-then-get-eq0
returns-then-get-eq0 c = eq_yes _ _ _ _ _ (rw c.get.ensures at c.if-get-eq0.true) refl

pub returns-else-get-eq0 : goal.returns-else-get-eq0
returns-else-get-eq0 c = eq_no _ _ _ _ _ (rw c.get.ensures at c.if-get-eq0.false) refl
