-- `newheap::put_arena_sizes` meets its contract: the callees' equations joined. Assumes nothing.
use Rattle.newheap.specs.New.{arena_sizes}
use Rattle.newheap.proofs.put_arena_sizes.Goals as goal

pub returns : goal.returns
unfolding arena_sizes
returns c = cc
