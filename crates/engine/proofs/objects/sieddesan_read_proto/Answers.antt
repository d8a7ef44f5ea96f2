-- `engine::objects::sieddesan_read_proto` meets its contract: from what its callees promise. Assumes nothing.
use Rattle.engine.proofs.objects.sieddesan_read_proto.Goals as goal

pub returns : goal.returns
returns c = rw (← c.ask_proto.ensures) c.tell.ensures
