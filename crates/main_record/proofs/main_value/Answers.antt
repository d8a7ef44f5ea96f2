-- `main_record::main_value` meets its contract: the callees' equations joined. Assumes nothing.
use Rattle.main_record.proofs.main_value.Goals as goal

pub returns : goal.returns
returns c = rw (← c.stack_at.ensures) c.read_value.ensures
