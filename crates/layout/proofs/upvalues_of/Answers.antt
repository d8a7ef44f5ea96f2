-- `layout::upvalues_of` meets its contract: from what its callees promise. Assumes nothing.
use Rattle.layout.specs.Layout.{lay_of}
use Rattle.layout.proofs.upvalues_of.Goals as goal

pub returns : goal.returns
unfolding lay_of
returns c = rw (c.upvalue_bodies_at.ensures, c.upvalues_at.ensures)
