-- `newheap::put_counters` meets its contract: the callees' equations joined. Assumes nothing.
use Rattle.newheap.specs.New.{counters}
use Rattle.newheap.proofs.put_counters.Goals as goal

pub returns : goal.returns
unfolding counters
returns c = cc
