-- A planned layout has at most 32 frames. Assumes nothing.
use Prim.Native.Nat.{◌≤◌}
use Rattle.layout.specs.declared.Lay.{Lay}
use Rattle.laid.specs.Laid.{Laid}

pub frames_most : (l : Lay) → Laid l → l.frames.room ≤ 32
unfolding Laid
frames_most l ok = ok.frames.room
