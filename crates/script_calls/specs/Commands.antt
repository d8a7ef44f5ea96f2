-- A script's commands that change something (document 01, `heapscript`), by the heap's calls. An unmade number or a wrong kind
-- is 4: nothing is changed. Assumes nothing.
use Rattle.std.specs.Prelude.{ℕ, Some, None, Option, Result}
use Rattle.base.specs.Heap.{Heap}
use Rattle.base.specs.declared.Refusal.{Refusal}
use Rattle.value.specs.declared.TableRef.{TableRef}
use Rattle.value.specs.declared.Value.{Value}
use Rattle.value.specs.declared.Value.TheVariants.{Nil, Boolean, Light, Number, Str, Table, Function, Userdata, Thread}
use Rattle.stack_calls.specs.StackCalls.{push, pop}
use Rattle.table_calls.specs.TableCalls.{table_set, table_set_meta}
use Rattle.node_calls.specs.NodeCalls.{table_set_node}
use Rattle.object_calls.specs.ObjectCalls.{ud_set_meta}
use Rattle.script_made.specs.Objects.{object_of}
use Rattle.script_print.specs.declared.Outcome.{Outcome}
use Rattle.script_answers.specs.Answers.{Script, script, refused4, of_served, of_got, table_of, meta_of}

-- A call that serves prints nothing.
unfoldable pub serve : (Heap → Result Unit Refusal × Heap) → Script → Result Outcome Refusal × Script
serve call s = (of_served (call s.heap).0, script (call s.heap).1 s.made)

-- What is done with the object that a number names.
abbrev pub on_object : (Value → Result Outcome Refusal × Script) → Script → Option Value → Result Outcome Refusal × Script
on_object f s (Some v) = f v
on_object f s None = refused4 s

-- What is done with the table that a number names.
abbrev pub on_table : (TableRef → Result Outcome Refusal × Script) → Script → Option TableRef → Result Outcome Refusal × Script
on_table f s (Some r) = f r
on_table f s None = refused4 s

abbrev pub on_meta : (Option TableRef → Result Outcome Refusal × Script) → Script → Option (Option TableRef) → Result Outcome Refusal × Script
on_meta f s (Some t) = f t
on_meta f s None = refused4 s

-- `push K`, `pop`.
unfoldable pub push_command : ℕ → Script → Result Outcome Refusal × Script
push_command k s = on_object (λ v. serve (push v) s) s (object_of s.made k)

unfoldable pub pop_command : Script → Result Outcome Refusal × Script
pop_command s = (of_got (pop s.heap).0, script (pop s.heap).1 s.made)

-- `seti T I K`.
unfoldable pub set_item : TableRef → ℕ → ℕ → Script → Result Outcome Refusal × Script
set_item r i k s = on_object (λ v. serve (table_set r i v) s) s (object_of s.made k)

unfoldable pub seti_command : ℕ → ℕ → ℕ → Script → Result Outcome Refusal × Script
seti_command t i k s = on_table (λ r. set_item r i k s) s (table_of (object_of s.made t))

-- `setn T J K V`.
unfoldable pub set_node : TableRef → ℕ → ℕ → ℕ → Script → Result Outcome Refusal × Script
set_node r j k v s =
    on_object (λ x. on_object (λ y. serve (table_set_node r j x y) s) s (object_of s.made v)) s (object_of s.made k)

unfoldable pub setn_command : ℕ → ℕ → ℕ → ℕ → Script → Result Outcome Refusal × Script
setn_command t j k v s = on_table (λ r. set_node r j k v s) s (table_of (object_of s.made t))

-- `meta K T`: K is a table or a userdata, T a table or 0.
unfoldable pub set_meta : Value → Option TableRef → Script → Result Outcome Refusal × Script
set_meta (Table r) t s = serve (table_set_meta r t) s
set_meta (Userdata r) t s = serve (ud_set_meta r t) s
set_meta Nil t s = refused4 s
set_meta (Boolean b) t s = refused4 s
set_meta (Light x) t s = refused4 s
set_meta (Number x) t s = refused4 s
set_meta (Str r) t s = refused4 s
set_meta (Function r) t s = refused4 s
set_meta (Thread r) t s = refused4 s

unfoldable pub meta_command : ℕ → ℕ → Script → Result Outcome Refusal × Script
meta_command k t s = on_object (λ v. on_meta (λ m. set_meta v m s) s (meta_of (object_of s.made t))) s (object_of s.made k)
