-- `newheap::put_bytes` meets its contract: the callees' equations joined. Assumes nothing.
use Rattle.newheap.specs.New.{new_bytes}
use Rattle.newheap.proofs.put_bytes.Goals as goal

pub returns : goal.returns
unfolding new_bytes
returns c = cc
