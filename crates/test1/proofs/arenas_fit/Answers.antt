-- `test1::arenas_fit` meets its contract: the callees' equations joined. Assumes nothing.
use Rattle.test1.specs.Test1.{arenas_fit}
use Rattle.test1.proofs.arenas_fit.Goals as goal

pub returns : goal.returns
unfolding arenas_fit
returns c = cc
