-- `test1::counts_fit` meets its contract: the callees' equations joined. Assumes nothing.
use Rattle.test1.specs.Test1.{counts_fit}
use Rattle.test1.proofs.counts_fit.Goals as goal

pub returns : goal.returns
unfolding counts_fit
returns c = cc
