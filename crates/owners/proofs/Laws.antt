-- What a planned layout gives of the main stack and the main open list. Assumes nothing.
use Prim.Native.Nat.{◌+◌, ◌*◌, ◌≤◌}
use Rattle.layout.specs.declared.Lay.{Lay}
use Rattle.laid.specs.Laid.{Laid}

module _ (l : Lay) (ok : Laid l) where
  pub stack_most : l.stack.room ≤ 256
  unfolding Laid
  stack_most = ok.stack.room

  pub stack_fits : l.stack.base + 3 * l.stack.room ≤ l.words
  unfolding Laid
  stack_fits = ok.stack.fits

  pub opens_most : l.opens.room ≤ 64
  unfolding Laid
  opens_most = ok.opens.room

  pub opens_fit : l.opens.base + 2 * l.opens.room ≤ l.words
  unfolding Laid
  opens_fit = ok.opens.fits
