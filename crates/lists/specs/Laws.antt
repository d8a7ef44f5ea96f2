-- What the laws of the working lists ask of a list. Assumes nothing.
use Rattle.std.specs.Prelude.{◌≢◌}
use Prim.Native.Nat.{◌<◌}
use Rattle.layout.specs.declared.List.{List}
use Rattle.lists.specs.Lists.{damage}

-- The damage mark lies below the items, and is no count.
pub record Apart (l : List) : Type 0 where
  pub below : damage < l.base
  pub other : l.count ≢ damage
