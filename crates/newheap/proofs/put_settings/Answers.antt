-- `newheap::put_settings` meets its contract: the callees' equations joined. Assumes nothing.
use Rattle.newheap.specs.New.{settings}
use Rattle.newheap.proofs.put_settings.Goals as goal

pub returns : goal.returns
unfolding settings
returns c = cc
