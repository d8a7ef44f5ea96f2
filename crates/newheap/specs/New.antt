-- Document 01, 'Sizes': the new heap, field by field. Every word and byte that the heap needs is 0 but for those written
-- here; the rest of longer buffers is untouched. Assumes nothing.
use Rattle.std.specs.Prelude.{List, [], ◌∷◌, ℕ, ◌+◌, ◌*◌, length, Ok, Err, Result}
use Rattle.base.specs.Ways.{if_lt}
use Rattle.base.specs.Words.{put, clear}
use Rattle.base.specs.Heap.{Heap, heap}
use Rattle.base.specs.declared.Refusal.TheVariants.{Unfit}
use Rattle.base.specs.declared.Refusal.{Refusal}
use Rattle.arena.specs.declared.Arena.{Arena}
use Rattle.layout.specs.Places.{GLOBAL, REGISTRY, NAME_MODE, NAME_GC, LIMIT, PAUSE, STEPMUL, WHITE, TOTAL, PEAK, THRESHOLD, DEBT, TABLE_WORDS}
use Rattle.layout.specs.Layout.{lay_of, planned}
use Rattle.layout.specs.declared.Sizes.{Sizes}
use Rattle.layout.specs.declared.Lay.{Lay}

-- a row is a place and what stands there
abbrev pub puts : List (ℕ × ℕ) → List ℕ → List ℕ
puts [] w = w
puts (r ∷ rs) w = puts rs (put r.0 r.1 w)

-- The ten chosen sizes.
unfoldable pub arena_sizes : Lay → List ℕ → List ℕ
arena_sizes l =
    puts ((0, l.strings.slots) ∷ (1, l.tables.slots) ∷ (2, l.functions.slots)
    ∷ (3, l.upvalues.slots) ∷ (4, l.userdata.slots) ∷ (5, l.threads.slots) ∷ [])

unfoldable pub main_sizes : Lay → List ℕ → List ℕ
main_sizes l = puts ((6, l.protos.room) ∷ (7, l.stack.room) ∷ (8, l.opens.room) ∷ (9, l.frames.room) ∷ [])

-- No limit (2^64 - 1), pause 200, stepmul 200.
unfoldable pub settings : List ℕ → List ℕ
settings = puts ((LIMIT, 4294967295) ∷ (LIMIT + 1, 4294967295) ∷ (PAUSE, 200) ∷ (STEPMUL, 200) ∷ [])

-- At Pause (0), current white the first; total and peak 224, threshold 65,536, debt 0 (stored plus 2^63).
unfoldable pub counters : List ℕ → List ℕ
counters = puts ((WHITE, 1) ∷ (TOTAL, 224) ∷ (PEAK, 224) ∷ (THRESHOLD, 65536) ∷ (DEBT + 1, 2147483648) ∷ [])

-- Tables global and registry are slots 0 and 1 of the tables, names `__mode` and `__gc` slots 0 and 1 of the strings
-- (each index + 1; generation 0).
unfoldable pub roots : List ℕ → List ℕ
roots = puts ((GLOBAL, 1) ∷ (REGISTRY, 2) ∷ (NAME_MODE, 1) ∷ (NAME_GC, 2) ∷ [])

-- Slots 0 and 1 of an arena are occupied, in white 1; each has a record of n words.
unfoldable pub two_marks : Arena → List ℕ → List ℕ
two_marks a = puts ((a.top + 1, 2) ∷ (a.top + 2, 2) ∷ (a.base, 1) ∷ (a.base + 1, 1) ∷ [])

unfoldable pub two_extents : Arena → ℕ → List ℕ → List ℕ
two_extents a n = puts ((a.base + 3 * a.slots, n) ∷ (a.base + 3 * a.slots + 1, n) ∷ [])

-- `__mode` has 6 bytes, `__gc` has 4.
unfoldable pub lengths : Arena → List ℕ → List ℕ
lengths a = puts ((a.bodies, 6) ∷ (a.bodies + 1, 4) ∷ [])

-- Both tables: array 8, nodes 8.
unfoldable pub table_sizes : Arena → List ℕ → List ℕ
table_sizes a =
    puts ((a.bodies + 2, 8) ∷ (a.bodies + 3, 8) ∷ (a.bodies + TABLE_WORDS + 2, 8) ∷ (a.bodies + TABLE_WORDS + 3, 8) ∷ [])

-- A string's record is 1 word; a table's with array 8 and nodes 8 is 4 + 3 * 8 + 6 * 8.
unfoldable pub names : Lay → List ℕ → List ℕ
names l w = lengths l.strings (two_extents l.strings 1 (two_marks l.strings w))

unfoldable pub tables : Lay → List ℕ → List ℕ
tables l w = table_sizes l.tables (two_extents l.tables 76 (two_marks l.tables w))

unfoldable pub fields : Lay → List ℕ → List ℕ
fields l w = roots (counters (settings (main_sizes l (arena_sizes l w))))

unfoldable pub new_words : Lay → List ℕ → List ℕ
new_words l w = tables l (names l (fields l (clear 0 l.words w)))

-- The bytes of both names.
unfoldable pub mode_text : List ℕ → List ℕ
mode_text = puts ((0, 95) ∷ (1, 95) ∷ (2, 109) ∷ (3, 111) ∷ (4, 100) ∷ (5, 101) ∷ [])

unfoldable pub gc_text : List ℕ → List ℕ
gc_text = puts ((64, 95) ∷ (65, 95) ∷ (66, 103) ∷ (67, 99) ∷ [])

unfoldable pub new_bytes : Lay → List ℕ → List ℕ
new_bytes l b = gc_text (mode_text (clear 0 l.bytes b))

abbrev pub new_heap : Lay → Heap → Heap
new_heap l h = heap (new_words l h.words) (new_bytes l h.bytes)

-- Making a heap tests the sizes (4), then the lengths (1), nothing else.
abbrev pub made_in : Heap → Result Sizes Refusal → Result Unit Refusal × Heap
made_in h (Ok s) =
    if_lt (length h.words) (lay_of s).words (Err Unfit, h)
    (if_lt (length h.bytes) (lay_of s).bytes (Err Unfit, h)
    (Ok tt, new_heap (lay_of s) h))
made_in h (Err n) = (Err n, h)

unfoldable pub make_heap : Sizes → Heap → Result Unit Refusal × Heap
make_heap s h = made_in h (planned s)
