-- The cycle ends. Enough steps, single, budgeted with any budgets or automatic, come to the end of the sweep, and on to Pause. Between
-- two of them words of pacing may change: that is what a finalizer's finish does. That they do is proved in proofs/Ends.antt.
--     stores, until_pause            stores and calls, up to Pause
--     sweep_most, queue_most         how many single steps are enough
--     Done, First, Paused            past the sweep; before the queue is empty; at Pause
use Rattle.std.specs.Prelude.{◌≡◌, ◌⊎◌, length}
use mathlib.Core.List.{List, [], ◌∷◌}
use Prim.Native.Nat.{ℕ, ◌+◌, ◌*◌, ◌≤◌, ◌<◌}
use Rattle.base.specs.Ways.{if_eq}
use Rattle.base.specs.Words.{at, put}
use Rattle.base.specs.Heap.{Heap, heap}
use Rattle.layout.specs.declared.Lay.{Lay}
use Rattle.layout.specs.Places.{PHASE}
use Rattle.lists.specs.Lists.{length_of}
use Rattle.laid.specs.Laid.{Laid}
use Rattle.mark_laws.specs.Apart.{Apart}
use Rattle.room_laws.specs.Tallies.{Ample}
use Rattle.reach.specs.Cycle.{AllWhite}
use Rattle.atomic_laws.specs.Bodies.{Bodies}
use Rattle.propagate.specs.Propagation.{rounds}
use Rattle.sweep_laws.specs.Places.{Rows}
use Rattle.sweep_laws.specs.Turns.{Arenas, slots_of}
use Rattle.sweep_laws.specs.Mixtures.{Past}
use Rattle.pace_laws.specs.Budgets.{Call, called}
use Rattle.pace_laws.specs.Lasting.{Lasts}

-- Words of pacing that are written between two calls, each with its number.
abbrev pub Store : Type 0
Store = (p : ℕ) × (57 ≤ p) × (p < 69) × ℕ

unfoldable pub stores : List Store → List ℕ → List ℕ
stores [] w = w
stores (s ∷ ss) w = stores ss (put s.0 s.3 w)

-- Calls one after the other, each after some such stores, until one has come to Pause.
unfoldable pub until_pause : Lay → List (List Store × Call) → Heap → Heap
until_pause l [] h = h
until_pause l (x ∷ xs) h =
    let g = called l x.1 (heap (stores x.0 h.words) h.bytes) in
    if_eq (at g.words PHASE) 0 g (until_pause l xs g)

-- Single steps up to the end of the sweep, 80 for each, and for each item of the queue and the end.
abbrev pub sweep_most : Lay → ℕ
sweep_most l = 80 * rounds l + slots_of l + 640

abbrev pub queue_most : Lay → ℕ
queue_most l = 80 * (l.queue.room + 1)

module _ (l : Lay) (ok : Laid l) (a : Apart l) (r : Rows l) (am : Ample l) (y : Bodies l) (w b : List ℕ) (long : l.words ≤ length w) (f : AllWhite l w) (none : length_of l.queue w ≡ 0)
    (v : Arenas l w) where
  abbrev pub P : Heap → Type 0
  P h = Past l ok a r am y w b long f none v h

  abbrev pub G : ℕ → ℕ → Heap → Type 0
  G t m h = Lasts l ok a r am y w b long f none v t m h

  -- On to Pause: of what is past the queue is counted.
  abbrev pub t : ℕ
  t = queue_most l

  abbrev pub Done : ℕ → Heap → Type 0
  Done m h = P h × (at h.words PHASE ≡ 4 → 80 * (length_of l.queue h.words + 1) ≤ m)

  abbrev pub First : ℕ → Heap → Type 0
  First m h = G t m h ⊎ (Done m h × (at h.words PHASE ≡ 4))

  -- past the sweep, at Pause
  abbrev pub Paused : Heap → Type 0
  Paused h = (at h.words PHASE ≡ 0) × P h
