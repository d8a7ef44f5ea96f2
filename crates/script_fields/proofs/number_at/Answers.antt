-- `script_fields::number_at` meets its contract: by the cases of its tests. Assumes nothing.
use native.Mathlib.Omega.{arith}
use mathlib.Core.Path.{refl}
use Rattle.base.specs.Ways.{le_yes, le_no, eq_yes, eq_no}
use Rattle.script_fields.specs.Fields.{number_at}
use Rattle.script_fields.proofs.number_at.Goals.{then-line-at-via-then-line-at, then-line-at-via-else-line-at+then-line-at-eq32}
use Rattle.script_fields.proofs.number_at.Goals as goal

pub returns-then-line-at : goal.returns-then-line-at
unfolding number_at
returns-then-line-at c = elim c.then-line-at.branch [
  | then-line-at-via-then-line-at w ↦ le_yes _ _ _ _ _ (omega (arith, w.if-line-at.true)) refl
  | then-line-at-via-else-line-at+then-line-at-eq32 w ↦ le_no _ _ _ _ _ (omega (arith, w.if-line-at.false)) (eq_yes _ _ _ _ _ w.if-line-at-eq32.true refl)
]

pub returns : goal.returns
unfolding number_at
returns c = le_no _ _ _ _ _ (omega arith) (eq_no _ _ _ _ _ c.if-line-at-eq32.false c.number_on.ensures)
