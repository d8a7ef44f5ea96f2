-- The settings: 1 and 8 as every call; else each answers the value before. Pause and stepmul take every number of 32 bits, the
-- limit every number of 64, of which the last is none. Assumes nothing.
use Rattle.std.specs.Prelude.{List, ℕ, Ok, Err, Result}
use Rattle.base.specs.Ways.{if_le}
use Rattle.base.specs.Words.{at, put, get64, put64}
use Rattle.base.specs.Heap.{Heap}
use Rattle.base.specs.declared.Refusal.{Refusal}
use Rattle.base.specs.Refusals.{number}
use Rattle.layout.specs.declared.Lay.{Lay}
use Rattle.layout.specs.Places.{PAUSE, STEPMUL, LIMIT, THRESHOLD}
use Rattle.test1.specs.Calls.{call, in_words}

-- By document 01's numbers: 0 for served, with the value before; else the refusal.
abbrev pub setting_number : Result ℕ Refusal → ℕ
setting_number (Ok n) = 0
setting_number (Err k) = number k

abbrev pub set_word : ℕ → ℕ → List ℕ → Result ℕ Refusal × List ℕ
set_word p n w = (Ok (at w p), put p n w)

abbrev pub set_pause_in : ℕ → Lay → List ℕ → Result ℕ Refusal × List ℕ
set_pause_in n l w = set_word PAUSE n w

unfoldable pub set_pause : ℕ → Heap → Result ℕ Refusal × Heap
set_pause n h = call Err (in_words (set_pause_in n)) h

abbrev pub set_stepmul_in : ℕ → Lay → List ℕ → Result ℕ Refusal × List ℕ
set_stepmul_in n l w = set_word STEPMUL n w

unfoldable pub set_stepmul : ℕ → Heap → Result ℕ Refusal × Heap
set_stepmul n h = call Err (in_words (set_stepmul_in n)) h

-- A threshold above the limit becomes the limit, as in the source.
unfoldable pub lowered : ℕ → List ℕ → List ℕ
lowered limit w = if_le (get64 w THRESHOLD) limit w (put64 THRESHOLD limit w)

unfoldable pub set_limit_in : ℕ → List ℕ → Result ℕ Refusal × List ℕ
set_limit_in limit w = (Ok (get64 w LIMIT), lowered limit (put64 LIMIT limit w))

unfoldable pub set_limit : ℕ → Heap → Result ℕ Refusal × Heap
set_limit limit h = call Err (in_words (λ l w. set_limit_in limit w)) h
