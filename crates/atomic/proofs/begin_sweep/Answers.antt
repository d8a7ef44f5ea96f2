-- `atomic::begin_sweep` meets its contract: the callees' equations joined. Assumes nothing.
use Rattle.atomic.specs.Atomic.{begun}
use Rattle.atomic.proofs.begin_sweep.Goals as goal

pub returns : goal.returns
unfolding begun
returns c = rw (← c.get-total.ensures, ← c.sub_sat-left.ensures, ← c.put.ensures, ← c.put-2.ensures, ← c.put-3.ensures) c.put-4.ensures
