-- `sweep_step::take_off` meets its contract: the callees' equations joined. Assumes nothing.
use Rattle.sweep_step.specs.Sweeping.{taken}
use Rattle.sweep_step.proofs.take_off.Goals as goal

pub returns : goal.returns
unfolding taken
returns c = rw (← c.get-total.ensures, ← c.less.ensures, ← c.put.ensures, ← c.get-estimate.ensures, ← c.less-2.ensures) c.put-2.ensures
