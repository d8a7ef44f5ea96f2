-- `layout::frames_at` meets its contract: from what its callees promise. Assumes nothing.
use Rattle.layout.specs.Layout.{lay_of}
use Rattle.layout.proofs.frames_at.Goals as goal

pub returns : goal.returns
unfolding lay_of
returns c = rw c.frames_at.ensures
