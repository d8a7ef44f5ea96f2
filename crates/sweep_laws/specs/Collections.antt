-- A collection by single steps, from Pause to the first state whose phase is Finalize: the slots freed are exactly the occupied
-- ones that are neither kept nor spared, each once. The theorem stands in proofs/Collections.antt.
--     ToFree, Freed, Collection     what is to be freed; one arena then; the whole
--     Ready, ready_arenas           the heap that the atomic step leaves, and its arenas
use Rattle.std.specs.Prelude.{◌≡◌, ◌⊎◌, ◌≢◌, ◌↔◌, length}
use mathlib.Core.List.{List, ◌++◌, Memᴰ}
use Prim.Native.Nat.{ℕ, ◌+◌, ◌*◌, ◌%◌, ◌^◌, ◌≤◌, ◌<◌}
use Rattle.base.specs.Words.{at}
use Rattle.base.specs.Heap.{Heap, heap}
use Rattle.arena.specs.Slots.{colour, gen, extent, fresh}
use Rattle.arena_laws.specs.Chain.{Falling, WellFormed}
use Rattle.layout.specs.declared.Lay.{Lay}
use Rattle.layout.specs.Places.{PHASE, WHITE, CURSOR_SLOT}
use Rattle.lists.specs.Lists.{damage}
use Rattle.laid.specs.Laid.{Laid}
use Rattle.mark.specs.Ops.{Ref, ref, other_white}
use Rattle.mark.specs.Words.{arena_of, colour_w}
use Rattle.propagate.specs.Propagation.{rounds}
use Rattle.mark_laws.specs.Apart.{Apart}
use Rattle.reach.specs.Reached.{Occupied}
use Rattle.reach.specs.Cycle.{AllWhite}
use Rattle.atomic_laws.specs.Kept.{Kept, Spared}
use Rattle.atomic_laws.specs.Bodies.{bodies}
use Rattle.cycle_laws.specs.Singles.{singles}
use Rattle.sweep_laws.specs.Places.{Rows}
use Rattle.sweep_laws.specs.Turns.{Arenas, slots_of}
use Rattle.sweep_laws.specs.Repaints.{Repainted, repainted_keeps}

-- The handle of slot i of arena k, by its generation.
abbrev pub slot_at : Lay → List ℕ → ℕ → ℕ → Ref
slot_at l w k i = ref k i (gen (arena_of l k) i w)

-- What is to be freed: what is occupied, not reached from a root or a due userdata, and no string that a kept weak table holds.
-- Links are as in the words w before the collection.
abbrev pub ToFree : Lay → List ℕ → List ℕ → Ref → Type 0
ToFree l w b r = Occupied l w r × (Kept l w b r → ⊥) × (Spared l w b r → ⊥)

-- Arena k after a collection that began at words w and bytes b; the atomic step left the heap h₁. The chain held the slots `before`.
pub record Freed (l : Lay) (w b : List ℕ) (k : ℕ) (before : List ℕ) (h₁ h : Heap) : Type 0 where
  -- the slots freed, each once, the last first: exactly those that are to be freed
  pub gone : List ℕ
  pub falls : Falling gone
  pub is : (i : ℕ) → Memᴰ i gone ↔ ToFree l w b (slot_at l w k i)
  -- the fresh index stays
  pub end : fresh (arena_of l k) h.words ≡ fresh (arena_of l k) w
  -- they are put at the head of the chain, in rising order, so that it leads through them and then on as before
  pub keeps : WellFormed (arena_of l k) h.words
  pub chain : keeps.free ≡ gone ++ before
  -- a slot freed is free, at the next generation modulo 2^32, its record as sized and its bytes are zero
  pub died : (i : ℕ) → Memᴰ i gone → colour (arena_of l k) i h.words ≡ 0
  pub aged : (i : ℕ) → Memᴰ i gone → gen (arena_of l k) i h.words ≡ (gen (arena_of l k) i w + 1) % 2 ^ 32
  pub zeroed : (i j : ℕ) → Memᴰ i gone → j < extent (arena_of l k) i w → at h.words ((arena_of l k).bodies + i * (arena_of l k).stride + j) ≡ 0
  pub erased : (i j : ℕ) → Memᴰ i gone → j < (arena_of l k).width → at h.bytes (i * (arena_of l k).width + j) ≡ 0
  -- every other occupied slot takes the new white; a free slot stays free
  pub lives : (i : ℕ) → Occupied l w (slot_at l w k i) → (Memᴰ i gone → ⊥) → colour (arena_of l k) i h.words ≡ at h.words WHITE
  pub idle : (i : ℕ) → i < (arena_of l k).slots → colour (arena_of l k) i w ≡ 0 → colour (arena_of l k) i h.words ≡ 0
  -- all others keep generation, extent and bytes, and the body that the atomic phase left
  pub gens : (i : ℕ) → i < (arena_of l k).slots → (Memᴰ i gone → ⊥) → gen (arena_of l k) i h.words ≡ gen (arena_of l k) i w
  pub extents : (i : ℕ) → i < (arena_of l k).slots → (Memᴰ i gone → ⊥) → extent (arena_of l k) i h.words ≡ extent (arena_of l k) i w
  pub bodies : (i j : ℕ) → i < (arena_of l k).slots → (Memᴰ i gone → ⊥) → j < (arena_of l k).stride
      → at h.words ((arena_of l k).bodies + i * (arena_of l k).stride + j) ≡ at h₁.words ((arena_of l k).bodies + i * (arena_of l k).stride + j)
  pub texts : (i j : ℕ) → i < (arena_of l k).slots → (Memᴰ i gone → ⊥) → j < (arena_of l k).width
      → at h.bytes (i * (arena_of l k).width + j) ≡ at b (i * (arena_of l k).width + j)

-- The single steps from Pause to the first state whose phase is Finalize. `marking` of them do the marking and the atomic phase.
pub record Collection (l : Lay) (w b : List ℕ) (v : Arenas l w) : Type 0 where
  pub marking : ℕ
  pub steps : ℕ
  -- linear in the sizes: propagation, the roots and the atomic step, six arenas, and one for each 80 slots
  pub few : 80 * steps ≤ 80 * rounds l + slots_of l + 640
  pub finalize : at (singles l steps (heap w b)).words PHASE ≡ 4
  pub first : (i : ℕ) → i < steps → at (singles l i (heap w b)).words PHASE ≢ 4
  -- the white has flipped, and no damage is marked
  pub white : at (singles l steps (heap w b)).words WHITE ≡ other_white (at w WHITE)
  pub whole : at (singles l steps (heap w b)).words damage ≡ at w damage
  pub arenas : (k : ℕ) (i : k ≤ 5) → Freed l w b k (v k i).free (singles l marking (heap w b)) (singles l steps (heap w b))

-- The heap that the atomic step leaves: of the arenas only colours changed, the white flipped, the cursor is at the first string; an
-- occupied slot is not in the old white exactly if it is kept or spared.
pub record Ready (l : Lay) (w b : List ℕ) (h : Heap) : Type 0 where
  pub paint : Repainted l w h.words
  pub bytes : h.bytes ≡ b
  pub white : at h.words WHITE ≡ other_white (at w WHITE)
  pub phase : at h.words PHASE ≡ 2
  pub cursor : at h.words CURSOR_SLOT ≡ 0
  pub whole : at h.words damage ≡ at w damage
  pub exact : (r : Ref) → Occupied l w r → (colour_w l r h.words ≢ at w WHITE) ↔ (Kept l w b r ⊎ Spared l w b r)

module _ (l : Lay) (ok : Laid l) (a : Apart l) (r : Rows l) (w b : List ℕ) (long : l.words ≤ length w) (f : AllWhite l w) (v : Arenas l w) (h₁ : Heap) (x : Ready l w b h₁) where
  -- its arenas are well-formed, with the same chains
  abbrev pub ready_arenas : Arenas l h₁.words
  ready_arenas k i = (repainted_keeps l ok a r x.paint k i (v k i)).0
