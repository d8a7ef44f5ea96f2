-- `arena_engine::sieddesan_arena_paint` meets its contract: from what its callees promise. Assumes nothing.
use Rattle.arena_engine.specs.Exports.{paint_on, lies_room}
use Rattle.arena_engine.proofs.sieddesan_arena_paint.Goals as goal

pub paint_in-requires : goal.paint_in-requires
paint_in-requires c = lies_room _ _ _ (rw c.in-Ok.is at c.place.ensures.1)

pub returns-in-Ok : goal.returns-in-Ok
unfolding paint_on
returns-in-Ok c = rw (← c.place.ensures.0, c.in-Ok.is) c.paint_in.ensures

pub returns-in-Err : goal.returns-in-Err
unfolding paint_on
returns-in-Err c = rw (← c.place.ensures.0, c.in-Err.is, c.number.ensures)
