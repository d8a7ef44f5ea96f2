-- `arena::no_room` meets its contract: each way by its test. Assumes nothing.
use Rattle.std.proofs.Common.{refl, arith}
use Rattle.arena.specs.Slots.{no_room}
use Rattle.base.specs.Ways.{lt_yes, lt_no}
use Rattle.arena.proofs.no_room.Goals as goal

pub returns-then-occupied_of-a : goal.returns-then-occupied_of-a
unfolding no_room
returns-then-occupied_of-a c = (lt_yes _ _ _ _ _ (omega arith) refl, tt)

pub returns-else-occupied_of-a : goal.returns-else-occupied_of-a
unfolding no_room
returns-else-occupied_of-a c = (lt_no _ _ _ _ _ (omega arith) refl, tt)
