-- `main_record::main_open` meets its contract: the callees' equations joined. Assumes nothing.
use Rattle.main_record.proofs.main_open.Goals as goal

pub returns : goal.returns
returns c = rw (← c.opens_at.ensures) c.read_upval.ensures
