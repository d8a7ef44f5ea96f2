-- `engine::objects::sieddesan_read_string` meets its contract: from what its callees promise. Assumes nothing.
use Rattle.engine.proofs.objects.sieddesan_read_string.Goals as goal

pub returns : goal.returns
returns c = rw (← c.ask_string.ensures) c.tell.ensures
