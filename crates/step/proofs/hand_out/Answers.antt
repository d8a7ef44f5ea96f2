-- `step::hand_out` meets its contract: the callees' equations joined. Assumes nothing.
use Rattle.step.proofs.hand_out.Goals as goal

pub returns : goal.returns
returns c = rw (← c.get-total.ensures) c.put64.ensures
