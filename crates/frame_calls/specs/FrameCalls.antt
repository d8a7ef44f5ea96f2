-- The calls that change the frames: 1 and 8 as every call, then 4. Assumes nothing.
use Rattle.std.specs.Prelude.{List, ℕ, Ok, Err, Result}
use Rattle.base.specs.Ways.{if_lt, if_le}
use Rattle.base.specs.Heap.{Heap}
use Rattle.base.specs.declared.Refusal.TheVariants.{OutOfRange}
use Rattle.base.specs.declared.Refusal.{Refusal}
use Rattle.layout.specs.declared.Lay.{Lay}
use Rattle.main_record.specs.Main.{set_main_ci, set_frame_function}
use Rattle.test1.specs.Calls.{call, in_words}

-- Frames 1 to 32, function index 0 to 256: 4 outside its range.
unfoldable pub set_frame_in : ℕ → ℕ → Lay → List ℕ → Result Unit Refusal × List ℕ
set_frame_in i n l w =
    if_le l.frames.room i (Err OutOfRange, w)
    (if_lt 256 n (Err OutOfRange, w)
    (Ok tt, set_frame_function l i n w))

unfoldable pub set_frame : ℕ → ℕ → Heap → Result Unit Refusal × Heap
set_frame i n h = call Err (in_words (set_frame_in i n)) h

-- The current frame is one of the frames, else 4.
unfoldable pub set_ci_in : ℕ → Lay → List ℕ → Result Unit Refusal × List ℕ
set_ci_in i l w = if_le l.frames.room i (Err OutOfRange, w) (Ok tt, set_main_ci i w)

unfoldable pub set_ci : ℕ → Heap → Result Unit Refusal × Heap
set_ci i h = call Err (in_words (set_ci_in i)) h
