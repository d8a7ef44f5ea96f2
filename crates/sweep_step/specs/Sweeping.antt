-- One sweep step: a batch of 80 occupied slots of the arena at the cursor, what they took off total and estimate, the cursor
-- moved. Assumes nothing.
use Rattle.std.specs.Prelude.{cond, List, ℕ, ◌-◌, ◌*◌}
use Rattle.base.specs.Ways.{if_lt, if_eq}
use Rattle.base.specs.Words.{at, put}
use Rattle.base.specs.Heap.{Heap, heap}
use Rattle.arena.specs.declared.Arena.{Arena}
use Rattle.arena.specs.declared.Swept.{Swept}
use Rattle.arena.specs.Slots.{sweep_partial}
use Rattle.layout.specs.declared.Lay.{Lay}
use Rattle.layout.specs.Places.{PHASE, WHITE, TOTAL, ESTIMATE}
use Rattle.mark.specs.Ops.{other_white}
use Rattle.sweep_step.specs.declared.SweepCursor.{SweepCursor}
use Rattle.sweep_step.specs.Cursor.{start, advanced, next_arena, cursor_at, put_cursor}

-- A stored arena index past 4 is threads.
unfoldable pub arena_at : Lay → ℕ → Arena
arena_at l k = if_eq k 0 l.tables (if_eq k 1 l.functions (if_eq k 2 l.upvalues (if_eq k 3 l.userdata l.threads)))

-- Sizes in the total: table 64, closure 48, upvalue 24, userdata 48, thread 256.
unfoldable pub size_at : ℕ → ℕ
size_at k = if_eq k 0 64 (if_eq k 1 48 (if_eq k 2 24 (if_eq k 3 48 256)))

-- Total and estimate stop at 0.
unfoldable pub taken : ℕ → List ℕ → List ℕ
taken n w =
    let w₁ = put TOTAL (at w TOTAL - n) w in
    put ESTIMATE (at w₁ ESTIMATE - n) w₁

-- A batch: the old white is dead, the current white is the new one. The max_count is 80.
abbrev pub swept_off : ℕ → Swept × Heap → Swept × Heap
swept_off size x = (x.0, heap (taken (x.0.freed * size) x.1.words) x.1.bytes)

unfoldable pub sweep_arena : Arena → ℕ → ℕ → Heap → Swept × Heap
sweep_arena a size from h =
    let white = at h.words WHITE in
    swept_off size (sweep_partial a (other_white white) white from 80 h)

-- After the strings, the others from the start.
unfoldable pub strings_moved : SweepCursor → Swept → List ℕ → List ℕ
strings_moved c s w = cond s.done (put PHASE 3 (put_cursor start w)) (put_cursor (advanced c s.next) w)

abbrev pub moved : (Swept → List ℕ → List ℕ) → Swept × Heap → Heap
moved f x = heap (f x.0 x.1.words) x.1.bytes

unfoldable pub sweep_strings : Lay → Heap → Heap
sweep_strings l h =
    let c = cursor_at h.words in
    moved (strings_moved c) (sweep_arena l.strings 48 c.slot_position h)

-- After the last arena the cursor stays, and the phase is Finalize.
unfoldable pub others_moved : SweepCursor → Swept → List ℕ → List ℕ
others_moved c s w =
    cond s.done
    (if_lt c.arena_index 4 (put_cursor (next_arena c) w) (put PHASE 4 w))
    (put_cursor (advanced c s.next) w)

unfoldable pub sweep_others : Lay → Heap → Heap
sweep_others l h =
    let c = cursor_at h.words in
    moved (others_moved c) (sweep_arena (arena_at l c.arena_index) (size_at c.arena_index) c.slot_position h)
