-- `engine::objects::sieddesan_read_table` meets its contract: from what its callees promise. Assumes nothing.
use Rattle.engine.proofs.objects.sieddesan_read_table.Goals as goal

pub returns : goal.returns
returns c = rw (← c.ask_table.ensures) c.tell.ensures
