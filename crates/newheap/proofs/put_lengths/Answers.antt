-- `newheap::put_lengths` meets its contract: the callees' equations joined. Assumes nothing.
use Rattle.newheap.specs.New.{lengths}
use Rattle.newheap.proofs.put_lengths.Goals as goal

pub returns : goal.returns
unfolding lengths
returns c = cc
