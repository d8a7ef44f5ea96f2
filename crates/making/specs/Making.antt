-- What all calls that make an object share: document 01, 'Refusal numbers', rows 6 and 3, and the damage rule. Assumes nothing.
use Rattle.std.specs.Prelude.{cond, List, ℕ, ◌+◌, ◌*◌, ◌≤◌, ◌<◌, Ok, Err, Result}
use Rattle.base.specs.Loop.{run}
use Rattle.base.specs.Words.{at, put, clear}
use Rattle.base.specs.declared.Refusal.TheVariants.{Full, TooLarge, Damaged}
use Rattle.base.specs.declared.Refusal.{Refusal}
use Rattle.arena.specs.declared.Untaken.{Untaken}
use Rattle.arena.specs.declared.Untaken.TheVariants.{NoneFree, Broken}
use Rattle.arena.specs.declared.Arena.{Arena}
use Rattle.arena.specs.Slots.{take_slot}
use Rattle.value.specs.Values.{value_at, put_value}
use Rattle.layout.specs.Places.{DAMAGE, WHITE}
use Rattle.record.specs.Fields.{body_at}
use Rattle.counters.specs.Count.{would_pass, counters_at, track}
use Rattle.making.specs.declared.Made.{Made}

-- A new record is n zeroed words of its slot's body, and its size is in the total.
abbrev pub begun : Arena → ℕ → ℕ → ℕ → List ℕ → List ℕ
begun a size n i w = track size (clear (body_at a i) n w)

-- Every slot of the arena is occupied: 3, and nothing is changed. A head or fresh index that names no free slot makes nothing
-- and sets the damage mark: 8.
abbrev pub on_took : Arena → ℕ → ℕ → Result (ℕ × ℕ) Untaken × List ℕ → Result (ℕ × ℕ × ℕ) Refusal × List ℕ
on_took a size n (Ok (i, g), w) = (Ok (i, g, body_at a i), begun a size n i w)
on_took a size n (Err NoneFree, w) = (Err Full, w)
on_took a size n (Err Broken, w) = (Err Damaged, put DAMAGE 1 w)

-- The tracked total would pass 2^31 - 1: 6, and nothing is changed. Else a slot in the current white, with a record of n words.
unfoldable pub new_object : Arena → ℕ → ℕ → List ℕ → Result (ℕ × ℕ × ℕ) Refusal × List ℕ
new_object a size n w = cond (would_pass (counters_at w) size) (Err TooLarge, w) (on_took a size n (take_slot a (at w WHITE) n w))

-- what is made lies within its arena, and its body within m words
abbrev pub Placed : Result (ℕ × ℕ × ℕ) Refusal → Arena → ℕ → Type 0
Placed (Ok (i, g, p)) a m = (i < a.slots) × (p + a.stride ≤ m)
Placed (Err k) a m = Unit {0}

-- Each kind writes its record, given index, generation and the body's place, and answers its handle; a refusal is the answer.
abbrev pub on_new : (ℕ → ℕ → ℕ → List ℕ → Result Made Refusal × List ℕ) → Result (ℕ × ℕ × ℕ) Refusal × List ℕ → Result Made Refusal × List ℕ
on_new f (Ok (i, g, p), w) = f i g p w
on_new f (Err k, w) = (Err k, w)

-- A list of n values, three words each, stands from p on. An unknown tag is nil.
unfoldable pub put_one : ℕ → List ℕ → ℕ → List ℕ → List ℕ
put_one p s k w = put_value (p + 3 * k) (value_at s (3 * k)) w

unfoldable pub put_values : ℕ → List ℕ → ℕ → List ℕ → List ℕ
put_values p s n w = run (put_one p s) 0 n w
