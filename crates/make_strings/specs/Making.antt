-- Making a string: document 01, 'Sizes' and 'Refusal numbers'. Over 64 bytes is 4. A string already present answers its
-- handle, never 6 or 3, and while old white takes the current white. Else it is new: 6, then 3. Assumes nothing.
use Rattle.std.specs.Prelude.{Bool, false, cond, List, ℕ, ◌*◌, ◌<◌, length, Some, None, Ok, Err, Option, Result}
use Rattle.base.specs.Ways.{if_lt, if_eq}
use Rattle.base.specs.Words.{at, clear}
use Rattle.base.specs.Heap.{Heap, heap}
use Rattle.base.specs.declared.Refusal.TheVariants.{OutOfRange}
use Rattle.base.specs.declared.Refusal.{Refusal}
use Rattle.arena.specs.declared.Arena.{Arena}
use Rattle.arena.specs.Slots.{colour, set_colour, gen, used}
use Rattle.layout.specs.declared.Lay.{Lay}
use Rattle.layout.specs.Places.{WHITE, STRING_WORDS}
use Rattle.test1.specs.Calls.{call}
use Rattle.record.specs.Fields.{body_at}
use Rattle.record.specs.Strings.{string_length, set_string_length, text_of, text_put, same_bytes}
use Rattle.mark.specs.Ops.{other_white}
use Rattle.making.specs.declared.Made.{Made}
use Rattle.making.specs.declared.Made.TheVariants.{Str}
use Rattle.making.specs.Making.{new_object}
use Rattle.making.specs.Turns.{turns}

-- An occupied slot with the same bytes, and as many.
unfoldable pub holds : Lay → List ℕ → Heap → ℕ → Bool
holds l s h i =
    if_eq (colour l.strings i h.words) 0 false
    (same_bytes (text_of i (string_length (body_at l.strings i) h.words) h.bytes) s)

-- The first such slot, in the order of their indices.
abbrev pub find_turn : Lay → List ℕ → Heap → ℕ → Option ℕ → Option ℕ
find_turn l s h i rest = cond (holds l s h i) (Some i) rest

abbrev pub find_string : Lay → List ℕ → Heap → Option ℕ
find_string l s h = turns (find_turn l s h) None (used l.strings h.words) 0

-- what is found lies below n
abbrev pub Below : Option ℕ → ℕ → Type 0
Below (Some i) n = i < n
Below None n = Unit {0}

-- A string found by its bytes while old white takes the current white.
unfoldable pub kept : Arena → ℕ → List ℕ → List ℕ
kept a i w = if_eq (colour a i w) (other_white (at w WHITE)) (set_colour a i (at w WHITE) w) w

unfoldable pub found_string : Lay → ℕ → List ℕ → Result Made Refusal × List ℕ
found_string l i w = (Ok (Str (record { 0 = i; 1 = gen l.strings i w })), kept l.strings i w)

-- The slot's 64 bytes are the string's and then 0.
unfoldable pub put_text : ℕ → List ℕ → List ℕ → List ℕ
put_text i s b = text_put i s (clear (64 * i) 64 b)

-- A new string is 48 in the total.
abbrev pub string_new : List ℕ → List ℕ → Result (ℕ × ℕ × ℕ) Refusal × List ℕ → Result Made Refusal × Heap
string_new s b (Ok (i, g, p), w) = (Ok (Str (record { 0 = i; 1 = g })), heap (set_string_length p (length s) w) (put_text i s b))
string_new s b (Err k, w) = (Err k, heap w b)

unfoldable pub new_string : List ℕ → Lay → Heap → Result Made Refusal × Heap
new_string s l h = string_new s h.bytes (new_object l.strings 48 STRING_WORDS h.words)

abbrev pub on_found : List ℕ → Lay → Heap → Option ℕ → Result Made Refusal × Heap
on_found s l h (Some i) = ((found_string l i h.words).0, heap (found_string l i h.words).1 h.bytes)
on_found s l h None = new_string s l h

unfoldable pub string_in : List ℕ → Lay → Heap → Result Made Refusal × Heap
string_in s l h = if_lt 64 (length s) (Err OutOfRange, h) (on_found s l h (find_string l s h))

unfoldable pub make_string : List ℕ → Heap → Result Made Refusal × Heap
make_string s h = call Err (string_in s) h
