-- What document 01 says of the chain of an arena: it holds every free slot below the fresh index once. Assumes nothing.
use Rattle.std.specs.Prelude.{◌≡◌, ◌↔◌}
use mathlib.Core.List.{List, Memᴰ}
use Prim.Native.Nat.{ℕ, ◌<◌}
use Rattle.arena.specs.Slots.{colour, head, fresh}
use Rattle.arena.specs.declared.Arena.{Arena}
use Rattle.arena_laws.specs.Chain.{Chain, Once}

-- The chain holds every free slot below the fresh index once: from the head the links lead through exactly these slots, no two of
-- them the same, and they are the free slots below the fresh index.
pub record Chained (a : Arena) (w : List ℕ) : Type 0 where
  pub free : List ℕ
  pub chain : Chain a w free (head a w)
  pub once : Once free
  pub is : (i : ℕ) → Memᴰ i free ↔ ((i < fresh a w) × (colour a i w ≡ 0))
