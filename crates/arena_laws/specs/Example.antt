-- A small arena that is well-formed, and the theorems put to it. Assumes nothing.
-- It has six slots, the fresh index 5, slot 4 free, slots 1 and 3 in the old white. A sweep frees 3 and 1, the chain is then
-- 3, 1, 4, and the generation 4294967295 of slot 3 becomes 0.
use Rattle.std.specs.Prelude.{◌≡◌, refl, true, ℕ, zero, suc, ◌<◌, Some, None, Ok}
use Rattle.std.proofs.Common.{sym, subst, arith}
use mathlib.Core.List.Memᴰ
use mathlib.Core.List.{List, [], ◌∷◌, Memᴰ}
use Rattle.base.specs.Loop.{run, rounds, scan, scans}
use Rattle.base.specs.Ways.{if_lt, if_le, if_eq}
use Rattle.base.specs.Words.{clear}
use Rattle.base.specs.Heap.{Heap, heap}
use Rattle.arena.specs.Slots.{Room, colour, head, named, tallied, occupied, emptied, chained, free_slot, take_slot, take_head, visit, sweep_partial}
use Rattle.arena.specs.declared.Arena.{Arena}
use Rattle.arena_laws.specs.Chain.{Chain, WellFormed}
use Rattle.arena_laws.specs.Takes.{take_made}
use Rattle.arena_laws.specs.Sweeps.{Sweeps, sweep_does}
use Rattle.arena_laws.specs.Lives.{Op, sweep, after, frees, freed_one, stale_until}

-- where its parts lie
unfoldable pub six : Arena
six = record { top = 0; base = 3; slots = 6; bodies = 27; stride = 2; width = 1 }

-- head, fresh index, count; colours; generations; links; extents; bodies
unfoldable pub six_words : List ℕ
six_words =
    5 ∷ 5 ∷ 4 ∷ 4 ∷ 1 ∷ 3 ∷ 1 ∷ 0 ∷ 0 ∷ 0 ∷ 8 ∷ 0 ∷ 4294967295 ∷ 2 ∷ 0 ∷ 0 ∷ 0 ∷ 0 ∷ 0 ∷ 0 ∷ 0 ∷ 2 ∷ 1 ∷ 0 ∷ 2 ∷ 0 ∷ 0
    ∷ 11 ∷ 12 ∷ 13 ∷ 14 ∷ 15 ∷ 16 ∷ 17 ∷ 18 ∷ 19 ∷ 20 ∷ 21 ∷ 22 ∷ []

-- with a byte for each slot
unfoldable pub six_heap : Heap
six_heap = heap six_words (1 ∷ 2 ∷ 3 ∷ 4 ∷ 5 ∷ 6 ∷ [])

-- its parts lie within the words
pub six_room : Room six six_heap.words
unfolding six six_words six_heap
six_room = record { slots = omega arith; apart = omega arith; below = omega arith; fits = omega arith }

-- of the slots below the fresh index only 4 is free
six_free : (i : ℕ) → (i < 5) × (colour six i six_heap.words ≡ 0) → Memᴰ i (4 ∷ [])
unfolding six six_words six_heap if_le
six_free zero q = absurd (omega (arith, q.1))
six_free (suc zero) q = absurd (omega (arith, q.1))
six_free (suc (suc zero)) q = absurd (omega (arith, q.1))
six_free (suc (suc (suc zero))) q = absurd (omega (arith, q.1))
six_free (suc (suc (suc (suc zero)))) q = Memᴰ.head refl
six_free (suc (suc (suc (suc (suc i))))) q = absurd (omega (arith, q.0))

-- the premise of the theorems
pub six_well_formed : WellFormed six six_heap.words
unfolding six six_words six_heap if_le if_eq tallied occupied run rounds
six_well_formed = record {
  within = omega arith;
  free = 4 ∷ [];
  chain = (refl, refl);
  once = ((λ m. absurd (Memᴰ.not-nil m)), tt);
  is = λ i. (
    (λ m. subst (λ (k : ℕ). (k < 5) × (colour six k six_heap.words ≡ 0)) (sym (Memᴰ.eq_of_singleton m)) (omega arith, refl)),
    (λ q. six_free i q),
  );
  unused = λ i p q.
      let e : 5 ≡ i = omega arith in
      subst (λ (k : ℕ). colour six k six_heap.words ≡ 0) e refl;
  counts = refl;
}

-- the sweep, by computing: two freed, next 5, done, the chain 3, 1, 4
pub six_swept : (sweep_partial six 1 2 0 80 six_heap).0 ≡ record { freed = 2; next = 5; done = true }
unfolding six six_words six_heap if_le if_eq sweep_partial scan scans visit free_slot chained emptied clear run rounds
six_swept = refl

-- its chain, by computing
pub six_chain : Chain six (sweep_partial six 1 2 0 80 six_heap).1.words (3 ∷ 1 ∷ 4 ∷ []) (head six (sweep_partial six 1 2 0 80 six_heap).1.words)
unfolding six six_words six_heap if_le if_eq sweep_partial scan scans visit free_slot chained emptied clear run rounds
six_chain = (refl, (refl, (refl, refl)))

-- the same by the theorem
pub six_sweeps : Sweeps six 1 2 0 80 six_heap six_well_formed.free (sweep_partial six 1 2 0 80 six_heap)
six_sweeps = sweep_does six 1 2 0 80 six_heap six_room six_well_formed (omega arith) (omega arith) (omega arith)

-- so slot 3 is among those freed
pub six_dead : Memᴰ 3 six_sweeps.cleaned.gone
unfolding six six_words six_heap if_le if_eq sweep_partial scan scans visit free_slot chained emptied clear run rounds
six_dead = (six_sweeps.cleaned.is 3).1 (omega arith, omega arith, omega arith, refl)

-- a handle of slot 3 names it, and names nothing after the sweep
pub six_named : named six 3 4294967295 six_heap.words ≡ Some 3
unfolding six six_words six_heap if_le if_eq named
six_named = refl

-- the sweep as one of the things done to an arena: it frees slot 3 once
unfoldable pub six_op : Op six
six_op = sweep 1 2 0 80 (omega arith) (omega arith) (omega arith)

pub six_freed : frees six 3 (six_op ∷ []) six_heap ≡ 1
unfolding six six_op six_words six_heap freed_one if_le if_eq sweep_partial scan scans visit free_slot chained emptied clear run rounds
six_freed = refl

-- so the handle is stale
pub six_stale : named six 3 4294967295 (after six (six_op ∷ []) six_heap).words ≡ None
six_stale = stale_until six 3 4294967295 (six_op ∷ []) six_heap six_room six_well_formed (omega arith) six_named (omega (arith, six_freed)) (omega (arith, six_freed))

-- the head of the chain is taken: slot 4 at its generation 2
pub six_takes : (take_slot six 3 1 six_heap.words).0 ≡ Ok (4, 2)
unfolding six six_words six_heap if_lt if_le if_eq take_slot take_head
six_takes = refl

-- and the handle names it
pub six_made : named six 4 2 (take_slot six 3 1 six_heap.words).1 ≡ Some 4
six_made = (take_made six 3 1 six_heap.words six_room six_well_formed (omega arith) (omega arith) 4 2 six_takes).names
