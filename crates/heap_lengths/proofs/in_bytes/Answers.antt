-- `heap_lengths::in_bytes` meets its contract: from what its callees promise. Assumes nothing.
use lib.Seq.{length-take-le}
use mathlib.Core.Path.{sym}
use Rattle.heap_lengths.proofs.in_bytes.Goals as goal

pub slice_bounds-part-end-2 : goal.slice_bounds-part-end-2
slice_bounds-part-end-2 g c = sym (length-take-le _ _ c.requires)
