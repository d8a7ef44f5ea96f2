-- `arena::visit_slot` meets its contract: each way by its test. Assumes nothing.
use Rattle.arena.specs.Slots.{visit}
use Rattle.base.specs.Ways.{eq_yes, eq_no}
use Rattle.std.proofs.Common.{refl, arith}
use Rattle.arena.proofs.visit_slot.Goals as goal

pub returns-then-c-eq0 : goal.returns-then-c-eq0
unfolding visit
returns-then-c-eq0 c = record { does = eq_yes _ _ _ _ _ (omega arith) refl; small = omega arith }

pub returns-then-c-dead : goal.returns-then-c-dead
unfolding visit
returns-then-c-dead c = record { does = eq_no _ _ _ _ _ (λ e. omega arith) (eq_yes _ _ _ _ _ (omega arith) (rw (← c.free_slot.ensures))); small = omega arith }

pub returns : goal.returns
unfolding visit
returns c = record { does = eq_no _ _ _ _ _ (λ e. omega arith) (eq_no _ _ _ _ _ (λ e. omega arith) refl); small = omega arith }
