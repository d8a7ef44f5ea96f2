-- `engine::objects::sieddesan_read_upvalue` meets its contract: from what its callees promise. Assumes nothing.
use Rattle.engine.proofs.objects.sieddesan_read_upvalue.Goals as goal

pub returns : goal.returns
returns c = rw (← c.ask_upvalue.ensures) c.tell.ensures
