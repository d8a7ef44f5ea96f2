-- The answers of calls that make or change something, by document 01's numbers: 0 for served, else the refusal. Assumes nothing.
use Rattle.std.specs.Prelude.{List, ℕ, Some, None, Ok, Err, Option, Result}
use Rattle.base.specs.Ways.{if_eq}
use Rattle.base.specs.Words.{at}
use Rattle.base.specs.declared.Refusal.TheVariants.{Stale, Damaged}
use Rattle.base.specs.declared.Refusal.{Refusal}
use Rattle.base.specs.Refusals.{number}
use Rattle.value.specs.declared.Value.{Value}
use Rattle.arena.specs.declared.Arena.{Arena}
use Rattle.arena.specs.Slots.{named}
use Rattle.layout.specs.Places.{DAMAGE}
use Rattle.record.specs.Fields.{body_at}

-- Done, with nothing to tell.
abbrev pub served_number : Result Unit Refusal → ℕ
served_number (Ok tt) = 0
served_number (Err n) = number n

-- Served with the value that it holds.
abbrev pub got_number : Result Value Refusal → ℕ
got_number (Ok v) = 0
got_number (Err n) = number n

-- The damage mark was set by the call: 8.
abbrev pub unmarked : List ℕ → Result Unit Refusal → Result Unit Refusal
unmarked w a = if_eq (at w DAMAGE) 0 a (Err Damaged)

-- Work on the record of the object that a handle names: its place is handed on. A handle that names no occupied slot is 2, and
-- nothing is changed.
abbrev pub at_named : Arena → Option ℕ → (ℕ → List ℕ → Result Unit Refusal × List ℕ) → List ℕ → Result Unit Refusal × List ℕ
at_named a (Some i) f w = f (body_at a i) w
at_named a None f w = (Err Stale, w)

abbrev pub on_named : Arena → ℕ → ℕ → (ℕ → List ℕ → Result Unit Refusal × List ℕ) → List ℕ → Result Unit Refusal × List ℕ
on_named a i g f w = at_named a (named a i g w) f w
