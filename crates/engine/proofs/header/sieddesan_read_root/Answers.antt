-- `engine::header::sieddesan_read_root` meets its contract: from what its callees promise. Assumes nothing.
use Rattle.engine.proofs.header.sieddesan_read_root.Goals as goal

pub returns : goal.returns
returns c = rw (← c.ask_root.ensures) c.tell.ensures
