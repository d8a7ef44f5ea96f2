-- `sweep_step::read_cursor` meets its contract: the callees' equations joined. Assumes nothing.
use Rattle.sweep_step.proofs.read_cursor.Goals as goal

pub returns : goal.returns
returns c = rw (← c.get.ensures, ← c.get-2.ensures)
