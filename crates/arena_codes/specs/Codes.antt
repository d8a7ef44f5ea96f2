-- What is done with one arena, and its answers, in numbers: a code (0, or a refusal number) and words lent for the rest.
-- Assumes nothing.
use Rattle.std.specs.Prelude.{List, Bool, true, false, ℕ, Some, None, Ok, Err, Option, Result}
use Rattle.base.specs.Words.{put}
use Rattle.base.specs.Heap.{Heap, heap}
use Rattle.base.specs.declared.Refusal.{Refusal}
use Rattle.base.specs.Refusals.{number}
use Rattle.arena.specs.declared.Untaken.{Untaken}
use Rattle.arena.specs.declared.Untaken.TheVariants.{NoneFree, Broken}
use Rattle.arena.specs.declared.Arena.{Arena}
use Rattle.arena.specs.declared.Swept.{Swept}
use Rattle.arena.specs.Slots.{named, set_colour, take_slot, freed, sweep_partial}

-- words 0 and 1 of an answer
abbrev pub told : ℕ → ℕ → List ℕ → List ℕ
told x y out = put 1 y (put 0 x out)

-- Taking: the answer's words stand in the place of the bytes, which taking leaves alone.
abbrev pub took_told : List ℕ → Result (ℕ × ℕ) Untaken × List ℕ → ℕ × Heap
took_told out (Ok (i, g), w) = (0, heap w (told i g out))
took_told out (Err NoneFree, w) = (3, heap w out)
took_told out (Err Broken, w) = (8, heap w out)

unfoldable pub take_in : Arena → ℕ → ℕ → Heap → ℕ × Heap
take_in a c n h = took_told h.bytes (take_slot a c n h.words)

-- Freeing.
abbrev pub free_told : Result Unit Refusal × Heap → ℕ × Heap
free_told (Ok tt, h) = (0, h)
free_told (Err r, h) = (number r, h)

unfoldable pub free_in : Arena → ℕ → ℕ → Heap → ℕ × Heap
free_in a i g h = free_told (freed a i g h)

-- Painting the slot that a handle names.
abbrev pub paint_at : Arena → ℕ → List ℕ → Option ℕ → ℕ × List ℕ
paint_at a c w (Some i) = (0, set_colour a i c w)
paint_at a c w None = (2, w)

unfoldable pub paint_in : Arena → ℕ → ℕ → ℕ → List ℕ → ℕ × List ℕ
paint_in a i g c w = paint_at a c w (named a i g w)

-- Sweeping: freed, next position, and 1 for done stand in the answer's words.
abbrev pub flag_of : Bool → ℕ
flag_of true = 1
flag_of false = 0

abbrev pub told_swept : Swept → List ℕ → List ℕ
told_swept s out = put 2 (flag_of s.done) (told s.freed s.next out)

abbrev pub swept_told : List ℕ → Swept × Heap → ℕ × (Heap × List ℕ)
swept_told out q = (0, (q.1, told_swept q.0 out))

unfoldable pub sweep_in : Arena → ℕ → ℕ → ℕ → ℕ → Heap × List ℕ → ℕ × (Heap × List ℕ)
sweep_in a dead white start most p = swept_told p.1 (sweep_partial a dead white start most p.0)
