-- `arena::take_head` meets its contract: each way by its test. Assumes nothing.
use Rattle.std.proofs.Common.{arith}
use Rattle.arena.specs.Slots.{popped, take_head}
use Rattle.base.specs.Ways.{lt_yes, lt_no, le_yes, le_no}
use Rattle.arena.proofs.take_head.Goals as goal

pub returns-then-used_of-i : goal.returns-then-used_of-i
unfolding take_head
returns-then-used_of-i c = (le_yes _ _ _ _ _ (omega arith) (rw c.no_room.ensures.0), c.no_room.ensures.1)

pub returns-then-colour_of-gt0 : goal.returns-then-colour_of-gt0
unfolding take_head
returns-then-colour_of-gt0 c = (le_no _ _ _ _ _ (omega arith) (lt_yes _ _ _ _ _ (omega arith) (rw c.no_room-then-colour_of-gt0.ensures.0)), c.no_room-then-colour_of-gt0.ensures.1)

pub returns : goal.returns
unfolding take_head popped
returns c = (le_no _ _ _ _ _ (omega arith) (lt_no _ _ _ _ _ (omega arith) (rw (← c.pop_slot-g.ensures.0, ← c.pop_slot-g.ensures.1, ← c.fill_slot.ensures))), omega arith)
