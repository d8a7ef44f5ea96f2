-- `newheap::put_main_sizes` meets its contract: the callees' equations joined. Assumes nothing.
use Rattle.newheap.specs.New.{main_sizes}
use Rattle.newheap.proofs.put_main_sizes.Goals as goal

pub returns : goal.returns
unfolding main_sizes
returns c = cc
