-- `step::lower_estimate` meets its contract: the callees' equations joined. Assumes nothing.
use Rattle.step.proofs.lower_estimate.Goals as goal

pub returns : goal.returns
returns c = rw (← c.get-e.ensures, ← c.lowered.ensures) c.put.ensures
