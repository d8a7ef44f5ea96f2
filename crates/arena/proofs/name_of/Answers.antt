-- `arena::name_of` meets its contract: each way by its tests. Assumes nothing.
use Rattle.std.proofs.Common.{refl, arith}
use Rattle.arena.specs.Slots.{named}
use Rattle.base.specs.Ways.{le_yes, le_no, eq_yes, eq_no}
use Rattle.arena.proofs.name_of.Goals.{else-i-used_of-via-then-i-used_of+then-generation_of-generation+else-colour_of-ne0 as free, else-i-used_of-via-then-i-used_of+else-generation_of-generation as stale, else-i-used_of-via-else-i-used_of as past}
use Rattle.arena.proofs.name_of.Goals as goal

pub returns-then-colour_of-ne0 : goal.returns-then-colour_of-ne0
unfolding named
returns-then-colour_of-ne0 c = (rw (← c.wide-i.ensures.0) (le_no _ _ _ _ _ (omega arith) (eq_yes _ _ _ _ _ (omega arith) (eq_no _ _ _ _ _ (λ e. omega arith) refl))), omega arith)

pub returns-else-i-used_of : goal.returns-else-i-used_of
unfolding named
returns-else-i-used_of c = elim c.else-i-used_of.branch [
  | past w ↦ (le_yes _ _ _ _ _ (omega arith) refl, tt)
  | stale w ↦ (rw (← c.wide-i.ensures.0) (le_no _ _ _ _ _ (omega arith) (eq_no _ _ _ _ _ (λ e. omega arith) refl)), tt)
  | free w ↦ (rw (← c.wide-i.ensures.0) (le_no _ _ _ _ _ (omega arith) (eq_yes _ _ _ _ _ (omega arith) (eq_yes _ _ _ _ _ (omega arith) refl))), tt)
]
