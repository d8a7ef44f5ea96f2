-- `mark::shade` meets its contract: each way by its tests. Assumes nothing.
use mathlib.Core.Path.{refl}
use native.Mathlib.Omega.{arith}
use Rattle.base.specs.Ways.{le_yes, le_no, eq_yes, eq_no}
use Rattle.mark.specs.Words.{shade}
use Rattle.mark.proofs.shade.Goals.{else-i-used_of-via-then-i-used_of+else-generation_of-generation as stale, else-i-used_of-via-else-i-used_of as past}
use Rattle.mark.proofs.shade.Goals as goal

pub returns-then-generation_of-generation : goal.returns-then-generation_of-generation
unfolding shade
returns-then-generation_of-generation c = rw (← c.wide-i.ensures.0) (le_no _ _ _ _ _ (omega arith) (eq_yes _ _ _ _ _ (omega arith) c.colour_of.ensures))

pub returns-else-i-used_of : goal.returns-else-i-used_of
unfolding shade
returns-else-i-used_of c = elim c.else-i-used_of.branch [
  | past w ↦ le_yes _ _ _ _ _ (omega arith) refl
  | stale w ↦ rw (← c.wide-i.ensures.0) (le_no _ _ _ _ _ (omega arith) (eq_no _ _ _ _ _ (λ e. omega arith) refl))
]
