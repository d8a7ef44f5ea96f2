-- `arena::take_fresh` meets its contract: each way by its test. Assumes nothing.
use Rattle.std.proofs.Common.{arith}
use Rattle.arena.specs.Slots.{opened, take_fresh}
use Rattle.base.specs.Ways.{lt_yes, lt_no, le_yes, le_no}
use Rattle.arena.proofs.take_fresh.Goals as goal

pub returns-then-slots-i : goal.returns-then-slots-i
unfolding take_fresh
returns-then-slots-i c = (le_yes _ _ _ _ _ (omega arith) (rw c.no_room.ensures.0), c.no_room.ensures.1)

pub returns-then-colour_of-gt0 : goal.returns-then-colour_of-gt0
unfolding take_fresh
returns-then-colour_of-gt0 c = (le_no _ _ _ _ _ (omega arith) (lt_yes _ _ _ _ _ (omega arith) (rw c.no_room-then-colour_of-gt0.ensures.0)), c.no_room-then-colour_of-gt0.ensures.1)

pub returns : goal.returns
unfolding take_fresh opened
returns c = (le_no _ _ _ _ _ (omega arith) (lt_no _ _ _ _ _ (omega arith) (rw (← c.open_slot.ensures, ← c.fill_slot.ensures))), omega arith)
