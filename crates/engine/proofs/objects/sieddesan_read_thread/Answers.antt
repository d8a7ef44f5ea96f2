-- `engine::objects::sieddesan_read_thread` meets its contract: from what its callees promise. Assumes nothing.
use Rattle.engine.proofs.objects.sieddesan_read_thread.Goals as goal

pub returns : goal.returns
returns c = rw (← c.ask_thread.ensures) c.tell.ensures
