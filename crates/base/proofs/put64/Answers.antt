-- `base::put64` meets its contract: the callees' equations joined. Assumes nothing.
use Rattle.base.proofs.put64.Goals as goal

pub returns : goal.returns
returns c = rw (← c.low_half.ensures, ← c.put.ensures, ← c.high_half.ensures) c.put-2.ensures
