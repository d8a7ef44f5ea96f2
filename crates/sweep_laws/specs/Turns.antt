-- The sweep by single steps: the six arenas in order, batch by batch, by the cursor. What is proved of it stands in proofs/Turns.antt.
--     Arenas, Stage        six well-formed arenas; how far the sweep has come
--     Progress             how far a single step goes
--     SweepDone            the whole sweep
use Rattle.std.specs.Prelude.{◌≡◌, ◌⊎◌, ◌≢◌, List, length}
use Prim.Native.Nat.{ℕ, ◌+◌, ◌*◌, ◌≤◌, ◌<◌}
use Rattle.base.specs.Words.{at}
use Rattle.base.specs.Heap.{Heap}
use Rattle.arena.specs.Slots.{fresh}
use Rattle.arena_laws.specs.Chain.{WellFormed}
use Rattle.layout.specs.declared.Lay.{Lay}
use Rattle.layout.specs.Places.{PHASE, WHITE, CURSOR_ARENA, CURSOR_SLOT}
use Rattle.mark.specs.Ops.{other_white}
use Rattle.mark.specs.Words.{arena_of}
use Rattle.cycle_laws.specs.Singles.{singles}
use Rattle.sweep_laws.specs.Batches.{Clean}

-- The six arenas are well-formed.
abbrev pub Arenas : Lay → List ℕ → Type 0
Arenas l w = (k : ℕ) → k ≤ 5 → WellFormed (arena_of l k) w

-- An arena swept below slot n: the old white is dead, the current white is the new one.
abbrev pub To : Lay → ℕ → ℕ → Heap → Heap → List ℕ → Type 0
To l k n h h' before = Clean (arena_of l k) (other_white (at h.words WHITE)) (at h.words WHITE) n h h' before

-- a word of the queue: its count, or one of its items
abbrev pub InQueue : Lay → ℕ → Type 0
InQueue l x = (x ≡ 72) ⊎ ((l.queue.base ≤ x) × (x < l.boundary))

-- The sweep that began at the heap h₀ is at slot n of arena j: the arenas before it are swept, those after it are as they were.
-- At the strings the phase is SweepString, at the others Sweep, past the last it is Finalize. Settings, roots and the damage mark,
-- the first 53 words, stay, and so does the queue.
pub record Stage (l : Lay) (h₀ : Heap) (v : Arenas l h₀.words) (j n : ℕ) (h : Heap) : Type 0 where
  pub long : length h.words ≡ length h₀.words
  pub first : (x : ℕ) → x < 53 → at h.words x ≡ at h₀.words x
  pub queue : (x : ℕ) → InQueue l x → at h.words x ≡ at h₀.words x
  pub white : at h.words WHITE ≡ at h₀.words WHITE
  pub most : j ≤ 6
  pub strings : j ≡ 0 → (at h.words PHASE ≡ 2) × (at h.words CURSOR_SLOT ≡ n)
  pub others : 1 ≤ j → j ≤ 5 → (at h.words PHASE ≡ 3) × (at h.words CURSOR_ARENA + 1 ≡ j) × (at h.words CURSOR_SLOT ≡ n)
  pub ended : j ≡ 6 → at h.words PHASE ≡ 4
  pub done : (k : ℕ) (i : k ≤ 5) → k < j → To l k (fresh (arena_of l k) h₀.words) h₀ h (v k i).free
  pub now : (i : j ≤ 5) → To l j n h₀ h (v j i).free
  pub rest : (k : ℕ) (i : k ≤ 5) → j < k → To l k 0 h₀ h (v k i).free

-- What a step writes beside the batch: the first 53 words, those from 72 on and the white stay.
pub record Low (w u : List ℕ) : Type 0 where
  pub long : length u ≡ length w
  pub first : (x : ℕ) → x < 53 → at u x ≡ at w x
  pub high : (x : ℕ) → 72 ≤ x → at u x ≡ at w x
  pub white : at u WHITE ≡ at w WHITE

-- A step in the middle of an arena sweeps 80 slots or more; one that ends it goes to the next.
abbrev pub Progress : ℕ → ℕ → ℕ → ℕ → Type 0
Progress j n j' n' = ((j' ≡ j) × (n + 80 ≤ n')) ⊎ ((j' ≡ j + 1) × (n' ≡ 0))

-- The slots of all six arenas.
abbrev pub slots_of : Lay → ℕ
slots_of l = l.strings.slots + l.tables.slots + l.functions.slots + l.upvalues.slots + l.userdata.slots + l.threads.slots

-- The sweep: from a heap at SweepString, the cursor at the first slot, the six arenas well-formed. After m single steps the phase
-- is Finalize, first then; each arena is swept up to its end; settings, roots, damage mark, queue and white stay.
pub record SweepDone (l : Lay) (h : Heap) (v : Arenas l h.words) : Type 0 where
  pub steps : ℕ
  pub few : 80 * steps ≤ slots_of l + 480
  pub finalize : at (singles l steps h).words PHASE ≡ 4
  pub first : (i : ℕ) → i < steps → at (singles l i h).words PHASE ≢ 4
  pub kept : (x : ℕ) → x < 53 → at (singles l steps h).words x ≡ at h.words x
  pub queue : (x : ℕ) → InQueue l x → at (singles l steps h).words x ≡ at h.words x
  pub white : at (singles l steps h).words WHITE ≡ at h.words WHITE
  pub arenas : (k : ℕ) (i : k ≤ 5) → To l k (fresh (arena_of l k) h.words) h (singles l steps h) (v k i).free
