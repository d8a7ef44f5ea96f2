-- `newheap::put_two_extents` meets its contract: the callees' equations joined. Assumes nothing.
use Rattle.newheap.specs.New.{two_extents}
use Rattle.newheap.proofs.put_two_extents.Goals as goal

pub returns : goal.returns
unfolding two_extents
returns c = cc
