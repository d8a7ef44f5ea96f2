-- `newheap::put_fields` meets its contract: the callees' equations joined. Assumes nothing.
use Rattle.newheap.specs.New.{fields}
use Rattle.newheap.proofs.put_fields.Goals as goal

pub returns : goal.returns
unfolding fields
returns c = cc
