-- `layout::stack_at` meets its contract: from what its callees promise. Assumes nothing.
use Rattle.layout.specs.Layout.{lay_of}
use Rattle.layout.proofs.stack_at.Goals as goal

pub returns : goal.returns
unfolding lay_of
returns c = rw c.stack_at.ensures
