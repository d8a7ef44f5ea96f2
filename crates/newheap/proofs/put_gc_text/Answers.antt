-- `newheap::put_gc_text` meets its contract: the callees' equations joined. Assumes nothing.
use Rattle.newheap.specs.New.{gc_text}
use Rattle.newheap.proofs.put_gc_text.Goals as goal

pub returns : goal.returns
unfolding gc_text
returns c = cc
