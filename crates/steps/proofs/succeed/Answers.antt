-- `steps::succeed` meets its contract: the callees' equations joined. Assumes nothing.
use Rattle.steps.specs.Steps.{succeeded}
use Rattle.steps.proofs.succeed.Goals as goal

pub returns : goal.returns
unfolding succeeded
returns c = rw (← c.get-total.ensures, ← c.get-pause.ensures, ← c.finish_threshold.ensures, ← c.put64.ensures) c.lower_estimate.ensures
