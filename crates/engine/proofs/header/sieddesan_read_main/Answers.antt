-- `engine::header::sieddesan_read_main` meets its contract: from what its callees promise. Assumes nothing.
use Rattle.engine.proofs.header.sieddesan_read_main.Goals as goal

pub returns : goal.returns
returns c = rw (← c.ask_main.ensures) c.tell.ensures
