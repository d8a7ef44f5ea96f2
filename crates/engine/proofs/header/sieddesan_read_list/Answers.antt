-- `engine::header::sieddesan_read_list` meets its contract: from what its callees promise. Assumes nothing.
use Rattle.engine.proofs.header.sieddesan_read_list.Goals as goal

pub returns : goal.returns
returns c = rw (← c.ask_list.ensures) c.tell.ensures
