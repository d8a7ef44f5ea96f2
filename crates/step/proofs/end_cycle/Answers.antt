-- `step::end_cycle` meets its contract: the callees' equations joined. Assumes nothing.
use Rattle.step.proofs.end_cycle.Goals as goal

pub returns : goal.returns
returns c = rw (← c.put.ensures) c.put64.ensures
