-- `layout::threads_of` meets its contract: from what its callees promise. Assumes nothing.
use Rattle.layout.specs.Layout.{lay_of}
use Rattle.layout.proofs.threads_of.Goals as goal

pub returns : goal.returns
unfolding lay_of
returns c = rw (c.thread_bodies_at.ensures, c.threads_at.ensures)
