-- `test1::lists_fit` meets its contract: the callees' equations joined. Assumes nothing.
use Rattle.test1.proofs.lists_fit.Goals as goal

pub returns : goal.returns
returns c = cc
