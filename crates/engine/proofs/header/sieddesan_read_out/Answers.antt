-- `engine::header::sieddesan_read_out` meets its contract: from what its callees promise. Assumes nothing.
use Rattle.engine.proofs.header.sieddesan_read_out.Goals as goal

pub returns : goal.returns
returns c = rw (← c.read_out.ensures) c.tell.ensures
