-- The header, and the parts of the main record and of the prototypes, lie within n words; the sizes lie within their ranges.
-- Assumes nothing.
use Rattle.std.specs.Prelude.{ℕ, ◌+◌, ◌*◌, ◌≤◌}
use Rattle.std.proofs.Common.{arith}
use Rattle.layout.specs.declared.Lay.{Lay}
use Rattle.layout.specs.Sizes.{SizesOk}
use Rattle.layout.specs.Fits.{Fits, sizes_in, sizes_in_lem}

pub record Parts (l : Lay) (n : ℕ) : Type 0 where
  pub header : 91 ≤ n
  pub protos : l.protos.base + 59 * l.protos.room ≤ n
  pub stack : l.stack.base + 3 * l.stack.room ≤ n
  pub opens : l.opens.base + 2 * l.opens.room ≤ n
  pub frames : l.frames.base + l.frames.room ≤ n
  pub frame : 1 ≤ l.frames.room
  pub sizes : SizesOk (sizes_in l)

-- as a layout gives it
pub parts : (l : Lay) (n m : ℕ) → Fits l n m → Parts l n
parts l n m h = record {
  header = h.header;
  protos = h.protos.fits;
  stack = h.stack.fits;
  opens = h.opens.fits;
  frames = omega (arith, h.frames.fits);
  frame = h.one_frame;
  sizes = sizes_in_lem l n m h;
}
