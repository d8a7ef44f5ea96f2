-- `layout::grayagain_of` meets its contract: from what its callees promise. Assumes nothing.
use Rattle.layout.specs.Layout.{lay_of}
use Rattle.layout.proofs.grayagain_of.Goals as goal

pub returns : goal.returns
unfolding lay_of
returns c = rw (c.grayagain_at.ensures, c.grayagain_room.ensures)
