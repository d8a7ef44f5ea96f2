-- `newheap::put_mode_text` meets its contract: the callees' equations joined. Assumes nothing.
use Rattle.newheap.specs.New.{mode_text}
use Rattle.newheap.proofs.put_mode_text.Goals as goal

pub returns : goal.returns
unfolding mode_text
returns c = cc
