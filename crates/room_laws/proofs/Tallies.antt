-- The layout of any sizes has the rooms of the lists that document 01 gives. Assumes nothing.
use Rattle.std.proofs.Common.{arith}
use Rattle.layout.specs.declared.Sizes.{Sizes}
use Rattle.layout.specs.Layout.{lay_of}
use Rattle.room_laws.specs.Tallies.{Ample}

-- The layout of any sizes has them.
pub ample : (s : Sizes) → Ample (lay_of s)
unfolding lay_of
ample s = record { gray = omega arith; weak = omega arith; again = omega arith; queue = omega arith }
