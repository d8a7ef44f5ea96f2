-- Freeing zeroes the body, adds 1 to the generation modulo 2^32 and puts the slot at the head of the chain. Assumes nothing.
use Rattle.std.specs.Prelude.{◌≡◌, refl, ◌⊎◌, ◌≢◌, length, Some, None, Ok, Err, Option}
use Rattle.std.proofs.Common.{sym, subst, ◌∙◌, ⊎_elim}
use Rattle.std.proofs.Math.Path.{ap}
use mathlib.Core.List.{List, ◌∷◌}
use Prim.Native.Nat.{ℕ, ◌+◌, ◌*◌, ◌%◌, ◌^◌, ◌≤◌, ◌<◌}
use native.Mathlib.Omega.{arith}
use Rattle.base.specs.Ways.{le_yes, le_no}
use Rattle.base.specs.Words.{at, clear}
use Rattle.base.specs.Heap.{Heap}
use Rattle.base.specs.declared.Refusal.TheVariants.{Stale}
use Rattle.arena.specs.Slots.{Room, Wide, row, colour, gen, head, extent, fresh, named, emptied, chained, free_slot, freed, freed_at}
use Rattle.arena.specs.declared.Arena.{Arena}
use Rattle.arena_laws.specs.Words.{le_or_lt, puts_far, clear_length, clear_in, clear_out}
use Rattle.arena_laws.specs.Chain.{Chain, WellFormed}
use Rattle.arena_laws.specs.Changes.{Outside, rows_apart, free_cells, freed_is}
use Rattle.arena_laws.specs.Names.{Names, named_tells, named_free}
use Rattle.arena_laws.specs.Keeps.{push_keeps, own_colour, other_gen, other_colour, other_extent, other_word, other_body, other_outside, other_named}

-- Slot i was freed: the heap h became h'. The chain held `free` before.
pub record Gone (a : Arena) (i : ℕ) (h h' : Heap) (free : List ℕ) : Type 0 where
  pub long : length h'.words ≡ length h.words
  -- handles of the slot name nothing
  pub stale : (g : ℕ) → named a i g h'.words ≡ None
  -- the other slots keep colour and generation, and their handles name what they named
  pub others : (j g : ℕ) → j ≢ i → named a j g h'.words ≡ named a j g h.words
  pub colours : (j : ℕ) → j < a.slots → j ≢ i → colour a j h'.words ≡ colour a j h.words
  pub gens : (j : ℕ) → j < a.slots → j ≢ i → gen a j h'.words ≡ gen a j h.words
  pub extents : (j : ℕ) → j < a.slots → j ≢ i → extent a j h'.words ≡ extent a j h.words
  -- the words of its record and its bytes are 0; the bodies and bytes of the others stay, and so does every word outside the arena
  pub zeroed : (k : ℕ) → k < extent a i h.words → at h'.words (a.bodies + i * a.stride + k) ≡ 0
  pub erased : Wide a h.bytes → (k : ℕ) → k < a.width → at h'.bytes (i * a.width + k) ≡ 0
  pub bodies : (j k : ℕ) → j ≢ i → k < a.stride → at h'.words (a.bodies + j * a.stride + k) ≡ at h.words (a.bodies + j * a.stride + k)
  pub texts : (j k : ℕ) → j ≢ i → k < a.width → at h'.bytes (j * a.width + k) ≡ at h.bytes (j * a.width + k)
  pub outside : (x : ℕ) → Outside a x → at h'.words x ≡ at h.words x
  pub size : length h'.bytes ≡ length h.bytes
  -- the slot is free, at the next generation
  pub colour : colour a i h'.words ≡ 0
  pub gen : gen a i h'.words ≡ (gen a i h.words + 1) % 2 ^ 32
  pub fresh : fresh a h'.words ≡ fresh a h.words
  -- the slot is at the head of the chain
  pub keeps : WellFormed a h'.words
  pub chain : keeps.free ≡ i ∷ free

-- the links after lead through the slot freed, and then on as before
pub free_links : {a : Arena} {i : ℕ} {h h' : Heap} {free : List ℕ} (m : Gone a i h h' free) → Chain a h'.words (i ∷ free) (head a h'.words)
free_links {a} {h' = h'} m = subst (λ (is : List ℕ). Chain a h'.words is (head a h'.words)) m.chain m.keeps.chain

-- an extent lies within the stride
pub extent_within : (a : Arena) (i : ℕ) (w : List ℕ) → extent a i w ≤ a.stride
extent_within a i w = ⊎_elim (λ p. subst (λ (x : ℕ). x ≤ a.stride) (le_yes s a.stride s 0 s p refl) p) (λ p. subst (λ (x : ℕ). x ≤ a.stride) (le_no s a.stride s 0 0 p refl) (omega arith)) (le_or_lt s a.stride)
  where
    s : ℕ
    s = at w (a.base + 3 * a.slots + i)

module _ (a : Arena) (i : ℕ) (h : Heap) (r : Room a h.words) where
  -- the words of the slot's record are 0
  pub body_zero : i < a.slots → (k : ℕ) → k < extent a i h.words → at (free_slot a i h).words (a.bodies + i * a.stride + k) ≡ 0
  unfolding free_slot chained emptied
  body_zero l k q =
      let w : List ℕ = h.words in
      let p : ℕ = a.bodies + i * a.stride in
      let n : ℕ = extent a i w in
      let v : List ℕ = clear p n w in
      puts_far (free_cells a i v) v (p + k) (omega arith, (omega arith, (omega arith, (omega arith, (omega arith, (omega arith, tt))))))
      ∙ clear_in p n w k (omega (arith, row a.stride l, extent_within a i w)) q

  -- all other words from the bodies on stay
  pub body_others : i < a.slots → (x : ℕ) → a.bodies ≤ x
      → (x < a.bodies + i * a.stride) ⊎ (a.bodies + i * a.stride + extent a i h.words ≤ x)
      → at (free_slot a i h).words x ≡ at h.words x
  body_others l x q o = other_word r l (freed_is a i h r l) x q o

  -- the bytes of the slot are 0
  pub text_zero : Wide a h.bytes → i < a.slots → (k : ℕ) → k < a.width → at (free_slot a i h).bytes (i * a.width + k) ≡ 0
  unfolding free_slot emptied
  text_zero wide l k q = clear_in (i * a.width) a.width h.bytes k (omega (arith, row a.width l)) q

  -- all other bytes stay
  pub text_others : (x : ℕ) → (x < i * a.width) ⊎ (i * a.width + a.width ≤ x) → at (free_slot a i h).bytes x ≡ at h.bytes x
  unfolding free_slot emptied
  text_others x o = clear_out (i * a.width) a.width h.bytes x o

  -- and so does their number
  pub text_length : length (free_slot a i h).bytes ≡ length h.bytes
  unfolding free_slot emptied
  text_length = clear_length (i * a.width) a.width h.bytes

  -- an occupied slot that is freed
  pub slot_gone : (v : WellFormed a h.words) → i < fresh a h.words → colour a i h.words ≢ 0 → Gone a i h (free_slot a i h) v.free
  slot_gone v f n =
      let w : List ℕ = h.words in
      let hs : i < a.slots = omega (arith, v.within) in
      let b = freed_is a i h r hs in
      let z : colour a i (free_slot a i h).words ≡ 0 = own_colour r hs b (omega arith) in
      let k = push_keeps r v ((gen a i w + 1) % 2 ^ 32) 0 f n b in
      record {
        long = b.long;
        colour = z;
        gen = b.gen;
        stale = λ g. named_free a i g (free_slot a i h).words z;
        colours = λ j l d. other_colour r hs b j l d;
        gens = λ j l d. other_gen r hs b j l d;
        others = λ j g d. other_named r hs b refl j g d;
        extents = λ j l d. other_extent r hs b j l d;
        zeroed = λ k l. body_zero hs k l;
        erased = λ o k l. text_zero o hs k l;
        bodies = λ j k d l. other_body r hs b (extent_within a i w) j k d l;
        texts = λ j k d l. text_others (j * a.width + k) (rows_apart i j k a.width d l);
        outside = λ x o. other_outside r hs b (extent_within a i w) x o;
        size = text_length;
        fresh = b.fresh;
        keeps = k.0;
        chain = k.1;
      }

  -- `free` with a handle that names a slot frees it
  pub free_done : (g : ℕ) → named a i g h.words ≡ Some i → freed a i g h ≡ (Ok tt, free_slot a i h)
  unfolding freed
  free_done g e = ap (λ (n : Option ℕ). freed_at a h n) e

  -- what becomes of the heap then
  pub free_gone : (v : WellFormed a h.words) (g : ℕ) → named a i g h.words ≡ Some i → Gone a i h (freed a i g h).1 v.free
  free_gone v g e =
      let t : Names a i g h.words = named_tells a i g h.words e in
      subst (λ (h' : Heap). Gone a i h h' v.free) (sym (ap (λ x. x.1) (free_done g e))) (slot_gone v (omega (arith, t.below)) t.occupied)

  -- `free` refuses a handle that names nothing with 2, and changes nothing
  pub free_refuses : (g : ℕ) → named a i g h.words ≡ None → freed a i g h ≡ (Err Stale, h)
  unfolding freed
  free_refuses g e = ap (λ (n : Option ℕ). freed_at a h n) e
