-- `newheap::put_words` meets its contract: the callees' equations joined. Assumes nothing.
use Rattle.newheap.specs.New.{new_words}
use Rattle.newheap.proofs.put_words.Goals as goal

pub returns : goal.returns
unfolding new_words
returns c = cc
