-- `sweep_step::write_cursor` meets its contract: the callees' equations joined. Assumes nothing.
use Rattle.sweep_step.proofs.write_cursor.Goals as goal

pub returns : goal.returns
returns c = rw (← c.put.ensures) c.put-2.ensures
