-- `newheap::put_table_sizes` meets its contract: the callees' equations joined. Assumes nothing.
use Rattle.newheap.specs.New.{table_sizes}
use Rattle.newheap.proofs.put_table_sizes.Goals as goal

pub returns : goal.returns
unfolding table_sizes
returns c = cc
