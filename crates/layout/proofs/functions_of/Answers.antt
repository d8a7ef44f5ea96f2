-- `layout::functions_of` meets its contract: from what its callees promise. Assumes nothing.
use Rattle.layout.specs.Layout.{lay_of}
use Rattle.layout.proofs.functions_of.Goals as goal

pub returns : goal.returns
unfolding lay_of
returns c = rw (c.function_bodies_at.ensures, c.functions_at.ensures)
