-- `layout::weak_of` meets its contract: from what its callees promise. Assumes nothing.
use Rattle.layout.specs.Layout.{lay_of}
use Rattle.layout.proofs.weak_of.Goals as goal

pub returns : goal.returns
unfolding lay_of
returns c = rw (c.weak_at.ensures, c.weak_room.ensures)
