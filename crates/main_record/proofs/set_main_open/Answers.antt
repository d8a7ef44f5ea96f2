-- `main_record::set_main_open` meets its contract: the callees' equations joined. Assumes nothing.
use Rattle.main_record.proofs.set_main_open.Goals as goal

pub returns : goal.returns
returns c = rw (← c.opens_at.ensures) c.write_upval.ensures
