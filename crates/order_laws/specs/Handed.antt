-- Among those due in a cycle finalizers are handed out in reverse order of creation, none twice: from Pause, by single steps. `w` are the
-- words before the collection. That it is so is proved in proofs/Handed.antt.
--     Falls                          falling order, so none twice
--     Handing                        the whole
--     Distinct, objects              where no two have one creation number; handles as objects
use Rattle.std.specs.Prelude.{◌≡◌, refl, ◌↔◌, ◌≢◌}
use mathlib.Core.List.{List, [], ◌∷◌, map, Memᴰ}
use Prim.Native.Nat.{ℕ, ◌<◌}
use Rattle.base.specs.Words.{at}
use Rattle.base.specs.Heap.{heap}
use Rattle.layout.specs.declared.Lay.{Lay}
use Rattle.layout.specs.Places.{PHASE}
use Rattle.lists.specs.declared.Item.{Item}
use Rattle.lists.specs.Lists.{index_of, generation_of, length_of}
use Rattle.mark.specs.Ops.{Ref, ref}
use Rattle.reach.specs.Reached.{Occupied}
use Rattle.atomic_laws.specs.Kept.{Due}
use Rattle.cycle_laws.specs.Singles.{singles}
use Rattle.manual.specs.Instance.{Object}
use Rattle.order_laws.specs.Orders.{created, Before}
use Rattle.order_laws.specs.Hands.{back_items, handable, outs}

-- the handle of a queued userdata
abbrev pub ref_of : Item → Ref
ref_of x = ref 4 (index_of x) (generation_of x)

-- Each comes after all behind it in the order of creation, ties by index: so none is there twice.
abbrev pub Falls : Lay → List ℕ → List Ref → Type 0
Falls l w [] = Unit {0}
Falls l w (r ∷ rs) = ((q : Ref) → Memᴰ q rs → Before l w q.at r.at) × Falls l w rs

-- The single steps from Pause to the first state whose phase is Finalize, and what the steps that follow hand out.
pub record Handing (l : Lay) (w b : List ℕ) : Type 0 where
  pub steps : ℕ
  pub finalize : at (singles l steps (heap w b)).words PHASE ≡ 4
  pub first : (i : ℕ) → i < steps → at (singles l i (heap w b)).words PHASE ≢ 4
  -- the queue from its end: exactly those due, in reverse order of creation
  pub count : ℕ
  pub queued : length_of l.queue (singles l steps (heap w b)).words ≡ count
  pub those : (r : Ref) → Memᴰ r (map ref_of (back_items l count (singles l steps (heap w b)).words)) ↔ Due l w b r
  pub falls : Falls l w (map ref_of (back_items l count (singles l steps (heap w b)).words))
  -- and of these the next steps hand out each that has a method then, in this order
  pub handed : outs l count (singles l steps (heap w b)) ≡ handable l (singles l steps (heap w b)).words (back_items l count (singles l steps (heap w b)).words)

-- The manual's order: no two that are to be finalized have one creation number. Then the queue from its end is the list of calls.
module _ (l : Lay) (w b : List ℕ) where
  abbrev pub Distinct : Type 0
  Distinct = (x q : Ref) → Due l w b x → Due l w b q → created l w x.at ≡ created l w q.at → x.at ≡ q.at

  -- handles of occupied slots as objects
  unfoldable pub objects : (rs : List Ref) → ((q : Ref) → Memᴰ q rs → Occupied l w q) → List (Object l w b)
  objects [] h = []
  objects (x ∷ rs) h = (x, h x (Memᴰ.head refl)) ∷ objects rs (λ q i. h q (Memᴰ.tail i))
