-- `newheap::put_roots` meets its contract: the callees' equations joined. Assumes nothing.
use Rattle.newheap.specs.New.{roots}
use Rattle.newheap.proofs.put_roots.Goals as goal

pub returns : goal.returns
unfolding roots
returns c = cc
