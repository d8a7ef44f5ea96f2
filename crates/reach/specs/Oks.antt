-- The tri-colour invariant on words, with links E that are still to be marked. `w` are the words before any marking, from which
-- all links are read, `u` those after some marking. Assumes nothing.
use Rattle.std.specs.Prelude.{◌≡◌, ◌⊎◌, ℕ, ◌≤◌}
use mathlib.Core.List.{List, Memᴰ}
use Rattle.value.specs.declared.ThreadRef.{ThreadRef}
use Rattle.layout.specs.declared.Lay.{Lay}
use Rattle.lists.specs.declared.Item.{Item}
use Rattle.lists.specs.declared.Item.TheVariants.{Thread, Main}
use Rattle.mark.specs.Ops.{Ref, thread}
use Rattle.mark.specs.Words.{colour_w}
use Rattle.mark_laws.specs.Changes.{Marked}
use Rattle.mark_laws.specs.Whites.{Listed}
use Rattle.room_laws.specs.Pends.{item_for}
use Rattle.room_laws.specs.Payments.{Whole}
use Rattle.reach.specs.Reached.{Link, Occupied}
use Rattle.reach.specs.Tri.{Inv}
use Rattle.reach.specs.OnLists.{On}

-- What is on grayagain, where no barrier was called: the main thread, and threads that are black.
abbrev pub Again : Lay → Item → List ℕ → Type 0
Again l x u = (x ≡ Main) ⊎ ((r : ThreadRef) × (x ≡ Thread r) × (4 ≤ colour_w l (thread r) u))

-- Everything marked is reached. A marked slot is gray, or each of its links leads to nothing, to a marked slot, or is one of E.
-- Each root that was given leads to nothing, to a marked slot, or is one of E. What is gray is on the gray list, or one of D;
-- what is on the gray list is marked, and what is on grayagain black. No list has passed its room.
pub record Ok (l : Lay) (w b : List ℕ) (Root Cov D : Ref → Type 0) (p t q : ℕ) (E : List Ref) (u : List ℕ) : Type 0 where
  pub marked : Marked l w u
  pub whole : Whole l p t q w u
  pub inv : Inv (Link l w b) Root (Occupied l w) Cov (λ r. colour_w l r u) (λ r. colour_w l r u ≡ 3) (λ r. Memᴰ r E)
  pub listed : (r : Ref) → colour_w l r u ≡ 3 → (Listed r.kind × On l.gray (item_for r) u) ⊎ D r
  pub todo : (r : Ref) → Listed r.kind → On l.gray (item_for r) u → 3 ≤ colour_w l r u
  pub kept : (x : Item) → On l.grayagain x u → Again l x u
