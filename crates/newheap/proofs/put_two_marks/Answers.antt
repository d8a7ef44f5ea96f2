-- `newheap::put_two_marks` meets its contract: the callees' equations joined. Assumes nothing.
use Rattle.newheap.specs.New.{two_marks}
use Rattle.newheap.proofs.put_two_marks.Goals as goal

pub returns : goal.returns
unfolding two_marks
returns c = cc
