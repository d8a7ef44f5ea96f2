-- `engine::header::sieddesan_read_counter` meets its contract: from what its callees promise. Assumes nothing.
use Rattle.engine.proofs.header.sieddesan_read_counter.Goals as goal

pub returns : goal.returns
returns c = rw (← c.ask_counter.ensures) c.tell.ensures
