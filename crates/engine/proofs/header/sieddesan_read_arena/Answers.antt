-- `engine::header::sieddesan_read_arena` meets its contract: from what its callees promise. Assumes nothing.
use Rattle.engine.proofs.header.sieddesan_read_arena.Goals as goal

pub returns : goal.returns
returns c = rw (← c.ask_arena.ensures) c.tell.ensures
