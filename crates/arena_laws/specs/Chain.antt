-- What a well-formed arena is: the chain holds every free slot below the fresh index once. Assumes nothing.
use Rattle.std.specs.Prelude.{◌≡◌, ◌↔◌, ℕ, ◌+◌, ◌≤◌, ◌<◌}
use mathlib.Core.List.{List, [], ◌∷◌, Memᴰ}
use Rattle.arena.specs.Slots.{colour, link, head, fresh, count, occupied}
use Rattle.arena.specs.declared.Arena.{Arena}

-- From the stored word x (a slot's index + 1, 0 for none) the links lead through exactly these slots, in this order.
abbrev pub Chain : Arena → List ℕ → List ℕ → ℕ → Type 0
Chain a w [] x = x ≡ 0
Chain a w (i ∷ is) x = (x ≡ i + 1) × Chain a w is (link a i w)

-- each at most once
abbrev pub Once : List ℕ → Type 0
Once [] = Unit {0}
Once (i ∷ is) = (Memᴰ i is → ⊥) × Once is

-- in falling order, so each at most once
abbrev pub Falling : List ℕ → Type 0
Falling [] = Unit {0}
Falling (i ∷ is) = ((j : ℕ) → Memᴰ j is → j < i) × Falling is

-- The fresh index lies within the slots. The chain holds each slot below it that is free, and no other, once.
-- Each slot from the fresh index on is free. The stored count is the count of occupied slots.
pub record WellFormed (a : Arena) (w : List ℕ) : Type 0 where
  pub within : fresh a w ≤ a.slots
  pub free : List ℕ
  pub chain : Chain a w free (head a w)
  pub once : Once free
  pub is : (i : ℕ) → Memᴰ i free ↔ ((i < fresh a w) × (colour a i w ≡ 0))
  pub unused : (i : ℕ) → fresh a w ≤ i → i < a.slots → colour a i w ≡ 0
  pub counts : count a w ≡ occupied a w
