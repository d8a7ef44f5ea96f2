-- `arena::extent_of` meets its contract: from what its callees promise. Assumes nothing.
use Rattle.std.proofs.Common.{arith}
use Rattle.arena.proofs.extent_of.Goals as goal

pub returns : goal.returns
returns c = (rw (← c.get.ensures) c.within.ensures.0, omega arith)
