-- `steps::is_out` meets its contract: the callees' equations joined. Assumes nothing.
use Rattle.steps.proofs.is_out.Goals as goal

pub returns : goal.returns
returns c = rw (← c.get.ensures)
