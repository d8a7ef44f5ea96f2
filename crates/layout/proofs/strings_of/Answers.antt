-- `layout::strings_of` meets its contract: from what its callees promise. Assumes nothing.
use Rattle.layout.specs.Layout.{lay_of}
use Rattle.layout.proofs.strings_of.Goals as goal

pub returns : goal.returns
unfolding lay_of
returns c = rw c.string_bodies_at.ensures
