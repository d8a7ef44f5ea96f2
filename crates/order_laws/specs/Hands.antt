-- The queue is handed out from its end: each item once, the method looked up then. That it is so is proved in proofs/Hands.antt.
--     back_items, handable, outs     the items from the end; those with a method; what n single steps hand out
--     Turn, Stepped                  what an item's turn hands out; what a single step in Finalize does
use Rattle.std.specs.Prelude.{◌≡◌, ◌⊎◌, length}
use Rattle.std.proofs.Math.Bool.{cond}
use mathlib.Core.List.{List, [], ◌∷◌}
use Prim.Native.Nat.{ℕ, zero, suc, ◌≤◌, ◌<◌}
use Rattle.base.specs.Words.{at}
use Rattle.base.specs.Heap.{Heap}
use Rattle.value.specs.declared.UdRef.{UdRef}
use Rattle.value.specs.Values.{is_nil}
use Rattle.layout.specs.declared.Lay.{Lay}
use Rattle.layout.specs.Places.{PHASE}
use Rattle.lists.specs.declared.Item.{Item}
use Rattle.lists.specs.declared.Item.TheVariants.{Table, Function, Userdata, Thread, Main, Unknown}
use Rattle.lists.specs.Lists.{item_in, length_of, place}
use Rattle.laid.specs.Laid.{Laid}
use Rattle.step.specs.declared.Single.{Single}
use Rattle.step.specs.declared.Single.TheVariants.{Cost, Out}
use Rattle.step.specs.Step.{method_of, single_step}
use Rattle.mark_laws.specs.Apart.{Apart}

-- The items of the queue, the first n, from the last on.
unfoldable pub back_items : Lay → ℕ → List ℕ → List Item
back_items l zero u = []
back_items l (suc n) u = item_in u (place l.queue n) ∷ back_items l n u

-- A userdata whose metatable has a method is handed out; any other item is passed.
abbrev pub offered : Lay → List ℕ → Item → List UdRef → List UdRef
offered l w (Userdata r) xs = cond (is_nil (method_of l r w)) xs (r ∷ xs)
offered l w (Table r) xs = xs
offered l w (Function r) xs = xs
offered l w (Thread r) xs = xs
offered l w Main xs = xs
offered l w Unknown xs = xs

unfoldable pub handable : Lay → List ℕ → List Item → List UdRef
handable l w [] = []
handable l w (x ∷ xs) = offered l w x (handable l w xs)

-- What n single steps hand out, the first first.
abbrev pub told : Single → List UdRef → List UdRef
told (Cost c) xs = xs
told (Out r v) xs = r ∷ xs

unfoldable pub outs : Lay → ℕ → Heap → List UdRef
outs l zero h = []
outs l (suc n) h = told (single_step l h).0 (outs l n (single_step l h).1)

module _ (l : Lay) (ok : Laid l) (a : Apart l) where
  -- What a step in Finalize leaves: all but the words of pacing, the phase and the queue.
  abbrev Far : ℕ → Type 0
  Far q = (q < 53) ⊎ (((73 ≤ q) × (q < l.queue.base)) ⊎ (l.boundary ≤ q))

  abbrev Calm : List ℕ → List ℕ → Type 0
  Calm w u = (q : ℕ) → Far q → at u q ≡ at w q

  -- An item's turn: what it hands out, and what it writes.
  pub record Turn (x : Item) (w : List ℕ) (y : Single × List ℕ) : Type 0 where
    pub long : length y.1 ≡ length w
    pub word : (q : ℕ) → (q < 59) ⊎ (62 ≤ q) → at y.1 q ≡ at w q
    pub says : (xs : List UdRef) → told y.0 xs ≡ offered l w x xs

  -- A single step in Finalize with n + 1 items queued.
  pub record Stepped (n : ℕ) (h g : Heap) (x : Single) : Type 0 where
    pub long : length g.words ≡ length h.words
    pub phase : at g.words PHASE ≡ 4
    pub count : length_of l.queue g.words ≡ n
    pub items : (i : ℕ) → i < n → item_in g.words (place l.queue i) ≡ item_in h.words (place l.queue i)
    pub calm : Calm h.words g.words
    pub says : (xs : List UdRef) → told x xs ≡ offered l h.words (item_in h.words (place l.queue n)) xs
