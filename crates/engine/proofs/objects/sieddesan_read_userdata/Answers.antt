-- `engine::objects::sieddesan_read_userdata` meets its contract: from what its callees promise. Assumes nothing.
use Rattle.engine.proofs.objects.sieddesan_read_userdata.Goals as goal

pub returns : goal.returns
returns c = rw (← c.ask_userdata.ensures) c.tell.ensures
