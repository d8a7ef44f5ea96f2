-- `arena_engine::sieddesan_arena_free` meets its contract: from what its callees promise. Assumes nothing.
use Rattle.arena_engine.specs.Exports.{free_on, lies_room}
use Rattle.arena_engine.proofs.sieddesan_arena_free.Goals as goal

pub free_in-requires : goal.free_in-requires
free_in-requires c = record { room = lies_room _ _ _ (rw c.in-Ok.is at c.place.ensures.1); wide = (rw c.in-Ok.is at c.place.ensures.1).wide }

pub returns-in-Ok : goal.returns-in-Ok
unfolding free_on
returns-in-Ok c = rw (← c.place.ensures.0, c.in-Ok.is) c.free_in.ensures

pub returns-in-Err : goal.returns-in-Err
unfolding free_on
returns-in-Err c = rw (← c.place.ensures.0, c.in-Err.is, c.number.ensures)
