-- `newheap::put_tables` meets its contract: the callees' equations joined. Assumes nothing.
use Rattle.newheap.specs.New.{tables}
use Rattle.newheap.proofs.put_tables.Goals as goal

pub returns : goal.returns
unfolding tables
returns c = cc
