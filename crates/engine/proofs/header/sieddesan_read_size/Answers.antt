-- `engine::header::sieddesan_read_size` meets its contract: from what its callees promise. Assumes nothing.
use Rattle.engine.proofs.header.sieddesan_read_size.Goals as goal

pub returns : goal.returns
returns c = rw (← c.ask_size.ensures) c.tell.ensures
