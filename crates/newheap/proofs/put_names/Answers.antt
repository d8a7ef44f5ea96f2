-- `newheap::put_names` meets its contract: the callees' equations joined. Assumes nothing.
use Rattle.newheap.specs.New.{names}
use Rattle.newheap.proofs.put_names.Goals as goal

pub returns : goal.returns
unfolding names
returns c = cc
