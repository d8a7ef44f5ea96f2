-- `engine::objects::sieddesan_read_closure` meets its contract: from what its callees promise. Assumes nothing.
use Rattle.engine.proofs.objects.sieddesan_read_closure.Goals as goal

pub returns : goal.returns
returns c = rw (← c.ask_closure.ensures) c.tell.ensures
