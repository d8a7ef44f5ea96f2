-- Document 01, 'Slots and colours': the words of one arena, read and written by name; a slot taken, freed and swept.
-- An `Arena` says where the parts lie, so this holds of each of the six. Assumes nothing.
use Rattle.std.specs.Prelude.{ℕ, ◌+◌, ◌-◌, ◌*◌, ◌%◌, ◌^◌, ◌<◌, ◌≤◌, min, List, length, nat_le, Some, None, Ok, Err, Option, Result}
use Rattle.std.proofs.Common.{suc-mul, mul-le-mul_right}
use Rattle.base.specs.Ways.{if_lt, if_le, if_eq}
use Rattle.base.specs.Loop.{run, scan}
use Rattle.base.specs.Words.{at, put, clear, more, bounded}
use Rattle.base.specs.Heap.{Heap, heap}
use Rattle.base.specs.declared.Refusal.TheVariants.{Stale}
use Rattle.base.specs.declared.Refusal.{Refusal}
use Rattle.arena.specs.declared.Untaken.{Untaken}
use Rattle.arena.specs.declared.Untaken.TheVariants.{NoneFree, Broken}
use Rattle.arena.specs.declared.Arena.{Arena}
use Rattle.arena.specs.declared.Sweep.{Sweep}
use Rattle.arena.specs.declared.Swept.{Swept}

-- The parts of the arena lie within the words, one after the other.
pub record Room (a : Arena) (w : List ℕ) : Type 0 where
  pub slots : a.slots ≤ 4096
  pub apart : a.top + 3 ≤ a.base
  pub below : a.base + 4 * a.slots ≤ a.bodies
  pub fits : a.bodies + a.slots * a.stride ≤ length w

-- The bytes of every slot lie within the bytes.
abbrev pub Wide : Arena → List ℕ → Type 0
Wide a b = a.slots * a.width ≤ length b

-- row i of n rows of s places ends within the n rows
pub row : {i n : ℕ} (s : ℕ) → i < n → i * s + s ≤ n * s
row s h = rw suc-mul at (mul-le-mul_right s h)

-- Colours: 0 free, 1 and 2 the whites, 3 gray, 4 black. An unknown colour is free.
abbrev pub known : ℕ → ℕ
known c = if_le c 4 c 0

abbrev pub colour : Arena → ℕ → List ℕ → ℕ
colour a i w = known (at w (a.base + i))

abbrev pub set_colour : Arena → ℕ → ℕ → List ℕ → List ℕ
set_colour a i c w = put (a.base + i) c w

abbrev pub gen : Arena → ℕ → List ℕ → ℕ
gen a i w = at w (a.base + a.slots + i)

abbrev pub set_gen : Arena → ℕ → ℕ → List ℕ → List ℕ
set_gen a i g w = put (a.base + a.slots + i) g w

-- The chain of free slots: a head and a link for each slot, each the next slot's index + 1, 0 for none.
abbrev pub link : Arena → ℕ → List ℕ → ℕ
link a i w = at w (a.base + 2 * a.slots + i)

abbrev pub set_link : Arena → ℕ → ℕ → List ℕ → List ℕ
set_link a i x w = put (a.base + 2 * a.slots + i) x w

abbrev pub head : Arena → List ℕ → ℕ
head a w = at w a.top

abbrev pub set_head : Arena → ℕ → List ℕ → List ℕ
set_head a x w = put a.top x w

-- The words that a slot's record takes of its body: it is sized when the object is made. One past the stride reads as 0.
abbrev pub extent : Arena → ℕ → List ℕ → ℕ
extent a i w = bounded (at w (a.base + 3 * a.slots + i)) a.stride

abbrev pub set_extent : Arena → ℕ → ℕ → List ℕ → List ℕ
set_extent a i n w = put (a.base + 3 * a.slots + i) n w

-- The fresh index, which ends the slots: no index from there on names a slot.
abbrev pub fresh : Arena → List ℕ → ℕ
fresh a w = at w (a.top + 1)

abbrev pub set_fresh : Arena → ℕ → List ℕ → List ℕ
set_fresh a x w = put (a.top + 1) x w

abbrev pub used : Arena → List ℕ → ℕ
used a w = min (fresh a w) a.slots

-- The count of occupied slots. Counts stop at zero.
abbrev pub count : Arena → List ℕ → ℕ
count a w = at w (a.top + 2)

abbrev pub set_count : Arena → ℕ → List ℕ → List ℕ
set_count a x w = put (a.top + 2) x w

abbrev pub count_less : Arena → List ℕ → List ℕ
count_less a w = set_count a (count a w - 1) w

abbrev pub count_more : Arena → List ℕ → List ℕ
count_more a w = set_count a (more (count a w)) w

-- A handle, index i and generation g, names an occupied slot of its generation, or nothing.
unfoldable pub named : Arena → ℕ → ℕ → List ℕ → Option ℕ
named a i g w =
    if_le (used a w) i None
    (if_eq (gen a i w) g
    (if_eq (colour a i w) 0 None (Some i))
    None)

-- what is named lies below n
abbrev pub Within : Option ℕ → ℕ → Type 0
Within (Some i) n = i < n
Within None n = Unit {0}

-- How many slots are occupied, by their colours.
unfoldable pub tallied : Arena → List ℕ → ℕ → ℕ → ℕ
tallied a w i n = if_eq (colour a i w) 0 n (n + 1)

unfoldable pub occupied : Arena → List ℕ → ℕ
occupied a w = run (tallied a w) 0 (used a w) 0

-- Freeing zeroes the body, adds 1 to the generation modulo 2^32 and puts the slot at the head of the chain.
abbrev pub clear_body : Arena → ℕ → List ℕ → List ℕ
clear_body a i w = clear (a.bodies + i * a.stride) (extent a i w) w

abbrev pub clear_text : Arena → ℕ → List ℕ → List ℕ
clear_text a i b = clear (i * a.width) a.width b

unfoldable pub emptied : Arena → ℕ → Heap → Heap
emptied a i h = heap (set_extent a i 0 (clear_body a i h.words)) (clear_text a i h.bytes)

abbrev pub aged : Arena → ℕ → List ℕ → List ℕ
aged a i w = set_gen a i ((gen a i w + 1) % 2 ^ 32) w

abbrev pub pushed : Arena → ℕ → List ℕ → List ℕ
pushed a i w = set_head a (i + 1) (set_link a i (head a w) w)

unfoldable pub chained : Arena → ℕ → List ℕ → List ℕ
chained a i w = count_less a (pushed a i (set_colour a i 0 (aged a i w)))

unfoldable pub free_slot : Arena → ℕ → Heap → Heap
free_slot a i h = heap (chained a i (emptied a i h).words) (emptied a i h).bytes

-- `free` refuses what names no occupied slot, a free slot too, with 2.
abbrev pub freed_at : Arena → Heap → Option ℕ → Result Unit Refusal × Heap
freed_at a h (Some i) = (Ok tt, free_slot a i h)
freed_at a h None = (Err Stale, h)

unfoldable pub freed : Arena → ℕ → ℕ → Heap → Result Unit Refusal × Heap
freed a i g h = freed_at a h (named a i g h.words)

-- Allocation takes the head, else the next fresh index at generation 0. The slot then has colour c and a record of n words.
abbrev pub filled : Arena → ℕ → ℕ → ℕ → List ℕ → List ℕ
filled a i c n w = count_more a (set_extent a i n (set_colour a i c w))

unfoldable pub popped : Arena → ℕ → ℕ → ℕ → List ℕ → List ℕ
popped a i c n w = filled a i c n (set_link a i 0 (set_head a (link a i w) w))

unfoldable pub opened : Arena → ℕ → ℕ → ℕ → List ℕ → List ℕ
opened a i c n w = filled a i c n (set_gen a i 0 (set_fresh a (i + 1) w))

-- Where neither gives a slot, nothing is made: every slot is occupied, or a head or fresh index names no free slot.
unfoldable pub no_room : Arena → List ℕ → Result (ℕ × ℕ) Untaken
no_room a w = if_lt (occupied a w) a.slots (Err Broken) (Err NoneFree)

unfoldable pub take_head : Arena → ℕ → ℕ → ℕ → List ℕ → Result (ℕ × ℕ) Untaken × List ℕ
take_head a i c n w =
    if_le (used a w) i (no_room a w, w)
    (if_lt 0 (colour a i w) (no_room a w, w)
    (Ok (i, gen a i w), popped a i c n w))

unfoldable pub take_fresh : Arena → ℕ → ℕ → ℕ → List ℕ → Result (ℕ × ℕ) Untaken × List ℕ
take_fresh a i c n w =
    if_le a.slots i (no_room a w, w)
    (if_lt 0 (colour a i w) (no_room a w, w)
    (Ok (i, 0), opened a i c n w))

unfoldable pub take_slot : Arena → ℕ → ℕ → List ℕ → Result (ℕ × ℕ) Untaken × List ℕ
take_slot a c n w = if_lt 0 (head a w) (take_head a (head a w - 1) c n w) (take_fresh a (fresh a w) c n w)

-- what is taken lies below n
abbrev pub Taken : Result (ℕ × ℕ) Untaken → ℕ → Type 0
Taken (Ok (i, g)) n = i < n
Taken (Err NoneFree) n = Unit {0}
Taken (Err Broken) n = Unit {0}

-- A sweep visits slots upward from the start until max occupied ones were seen or the end, the fresh index.
-- Old-white ones are freed; other occupied ones take the new white.
unfoldable pub visit : Arena → ℕ → ℕ → ℕ → Sweep → Heap → Sweep × Heap
visit a dead white i s h =
    if_eq (colour a i h.words) 0 (s, h)
    (if_eq (colour a i h.words) dead
    (record { left = s.left - 1; freed = s.freed + 1 }, free_slot a i h)
    (record { left = s.left - 1; freed = s.freed }, heap (set_colour a i white h.words) h.bytes))

abbrev pub to_see : Sweep × Heap → ℕ
to_see p = p.0.left

abbrev pub visits : Arena → ℕ → ℕ → ℕ → Sweep × Heap → Sweep × Heap
visits a dead white i p = visit a dead white i p.0 p.1

-- Done means next position at or past the end.
abbrev pub swept : ℕ → ℕ × (Sweep × Heap) → Swept × Heap
swept e q = (record { freed = q.1.0.freed; next = q.0; done = nat_le e q.0 }, q.1.1)

unfoldable pub sweep_partial : Arena → ℕ → ℕ → ℕ → ℕ → Heap → Swept × Heap
sweep_partial a dead white start max h =
    swept (used a h.words) (scan to_see (visits a dead white) start (used a h.words) (record { left = max; freed = 0 }, h))
