-- `layout::bytes_of` meets its contract: from what its callees promise. Assumes nothing.
use mathlib.Core.Path.{refl}
use Rattle.layout.specs.Layout.{lay_of}
use Rattle.layout.proofs.bytes_of.Goals as goal

pub returns : goal.returns
unfolding lay_of
returns c = refl
