-- What a script's commands (document 01, `heapscript`) work on, what they make of the heap's answers, and the tables among the
-- made objects that they are given. Assumes nothing.
use Rattle.std.specs.Prelude.{List, ℕ, Some, None, Ok, Err, Option, Result}
use Rattle.base.specs.Heap.{Heap}
use Rattle.base.specs.declared.Refusal.TheVariants.{OutOfRange}
use Rattle.base.specs.declared.Refusal.{Refusal}
use Rattle.value.specs.declared.TableRef.{TableRef}
use Rattle.value.specs.declared.Value.{Value}
use Rattle.value.specs.declared.Value.TheVariants.{Nil, Boolean, Light, Number, Str, Table, Function, Userdata, Thread}
use Rattle.script_print.specs.declared.Outcome.{Outcome}
use Rattle.script_print.specs.declared.Outcome.TheVariants as outcome

-- The heap of a script and its table of made objects.
pub record Script : Type 0 where
  pub heap : Heap
  pub made : List ℕ

abbrev pub script : Heap → List ℕ → Script
script h m = record { heap = h; made = m }

-- The line is refused with 4, and nothing is changed.
abbrev pub refused4 : Script → Result Outcome Refusal × Script
refused4 s = (Err OutOfRange, s)

-- A call that serves prints nothing.
abbrev pub of_served : Result Unit Refusal → Result Outcome Refusal
of_served (Ok tt) = Ok outcome.Quiet
of_served (Err n) = Err n

abbrev pub of_got : Result Value Refusal → Result Outcome Refusal
of_got (Ok v) = Ok outcome.Quiet
of_got (Err n) = Err n

-- A number that names a table.
unfoldable pub table_of_value : Value → Option TableRef
table_of_value (Table r) = Some r
table_of_value Nil = None
table_of_value (Boolean b) = None
table_of_value (Light x) = None
table_of_value (Number x) = None
table_of_value (Str r) = None
table_of_value (Function r) = None
table_of_value (Userdata r) = None
table_of_value (Thread r) = None

unfoldable pub table_of : Option Value → Option TableRef
table_of (Some v) = table_of_value v
table_of None = None

-- A number that names a table, or 0.
unfoldable pub meta_of_value : Value → Option (Option TableRef)
meta_of_value Nil = Some None
meta_of_value (Table r) = Some (Some r)
meta_of_value (Boolean b) = None
meta_of_value (Light x) = None
meta_of_value (Number x) = None
meta_of_value (Str r) = None
meta_of_value (Function r) = None
meta_of_value (Userdata r) = None
meta_of_value (Thread r) = None

unfoldable pub meta_of : Option Value → Option (Option TableRef)
meta_of (Some v) = meta_of_value v
meta_of None = None
