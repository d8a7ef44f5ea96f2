-- A script's commands that make an object (document 01, `heapscript`), by the heap's calls. An object for which the table of
-- made objects has no room is 4: nothing is changed. Assumes nothing.
use Rattle.std.specs.Prelude.{cond, List, ℕ, Ok, Err, Result}
use Rattle.base.specs.Heap.{Heap}
use Rattle.base.specs.declared.Refusal.TheVariants.{OutOfRange}
use Rattle.base.specs.declared.Refusal.{Refusal}
use Rattle.value.specs.declared.Value.TheVariants.{Str, Table, Userdata}
use Rattle.making.specs.declared.Made.{Made}
use Rattle.making.specs.declared.Made.TheVariants as made
use Rattle.make_strings.specs.Making.{make_string}
use Rattle.make_tables.specs.Making.{make_table, make_userdata}
use Rattle.script_made.specs.Objects.{is_full, added}
use Rattle.script_print.specs.declared.Outcome.{Outcome}
use Rattle.script_print.specs.declared.Outcome.TheVariants as outcome
use Rattle.script_answers.specs.Answers.{Script, script, refused4}

-- A made object takes the next number. (No call here answers with another kind.)
unfoldable pub numbered : Result Made Refusal → List ℕ → Result Outcome Refusal × List ℕ
numbered (Ok (made.Str r)) m = (Ok (outcome.Str (added (Str r) m).0 r), (added (Str r) m).1)
numbered (Ok (made.Table r)) m = (Ok (outcome.Table (added (Table r) m).0 r), (added (Table r) m).1)
numbered (Ok (made.Userdata r)) m = (Ok (outcome.Userdata (added (Userdata r) m).0 r), (added (Userdata r) m).1)
numbered (Err n) m = (Err n, m)
numbered (Ok (made.Function r)) m = (Err OutOfRange, m)
numbered (Ok (made.Upvalue r)) m = (Err OutOfRange, m)
numbered (Ok (made.Thread r)) m = (Err OutOfRange, m)
numbered (Ok (made.Proto n)) m = (Err OutOfRange, m)

unfoldable pub make : (Heap → Result Made Refusal × Heap) → Script → Result Outcome Refusal × Script
make call s =
    cond (is_full s.made) (refused4 s)
    (let x = call s.heap in
    let y = numbered x.0 s.made in
    (y.0, script x.1 y.1))

-- `str TEXT`, `tab A N`, `ud`.
abbrev pub str_command : List ℕ → Script → Result Outcome Refusal × Script
str_command text = make (make_string text)

abbrev pub tab_command : ℕ → ℕ → Script → Result Outcome Refusal × Script
tab_command a n = make (make_table a n)

abbrev pub ud_command : Script → Result Outcome Refusal × Script
ud_command = make make_userdata
