-- `layout::opens_at` meets its contract: from what its callees promise. Assumes nothing.
use Rattle.layout.specs.Layout.{lay_of}
use Rattle.layout.proofs.opens_at.Goals as goal

pub returns : goal.returns
unfolding lay_of
returns c = rw c.opens_at.ensures
