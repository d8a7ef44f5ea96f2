-- `arena::take_slot` meets its contract: each way by its test. Assumes nothing.
use Rattle.arena.specs.Slots.{take_slot}
use Rattle.base.specs.Ways.{lt_yes, lt_no}
use Rattle.std.proofs.Common.{arith}
use Rattle.arena.proofs.take_slot.Goals as goal

pub returns-then-h-gt0 : goal.returns-then-h-gt0
unfolding take_slot
returns-then-h-gt0 c = (lt_yes _ _ _ _ _ (omega arith) (rw (← c.wide-h.ensures.0) c.take_head.ensures.0), c.take_head.ensures.1)

pub returns : goal.returns
unfolding take_slot
returns c = (lt_no _ _ _ _ _ (omega arith) (rw (← c.wide-f.ensures.0) c.take_fresh.ensures.0), c.take_fresh.ensures.1)
