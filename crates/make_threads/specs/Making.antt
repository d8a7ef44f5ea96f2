-- Making an upvalue or a thread: document 01, 'Sizes' and 'Refusal numbers'. The first refusal in the order 4, 2, 6, 3 is the
-- answer and changes nothing. What a record does not name here is 0: none, nil, no. Assumes nothing.
use Rattle.std.specs.Prelude.{Bool, true, false, cond, List, ℕ, Some, Ok, Err, Result}
use Rattle.base.specs.Ways.{if_lt}
use Rattle.base.specs.Heap.{Heap}
use Rattle.base.specs.declared.Refusal.TheVariants.{Stale, OutOfRange}
use Rattle.base.specs.declared.Refusal.{Refusal}
use Rattle.value.specs.declared.TableRef.{TableRef}
use Rattle.value.specs.declared.Value.{Value}
use Rattle.value.specs.declared.Value.TheVariants.{Nil}
use Rattle.layout.specs.declared.Lay.{Lay}
use Rattle.layout.specs.Places.{UPVALUE_WORDS}
use Rattle.test1.specs.Calls.{call, in_words}
use Rattle.run_record.specs.Upvalues.{set_closed, set_upvalue_value}
use Rattle.run_record.specs.Threads.{set_thread_global, set_thread_size, thread_extent}
use Rattle.given.specs.Given.{is_table, is_sound}
use Rattle.making.specs.declared.Made.{Made}
use Rattle.making.specs.declared.Made.TheVariants.{Upvalue, Thread}
use Rattle.making.specs.Making.{new_object, on_new}

-- An upvalue, 24 in the total: open, or closed with a value, which names an object if it refers to one (2).
abbrev pub upvalue_at : Bool → Value → ℕ → ℕ → ℕ → List ℕ → Result Made Refusal × List ℕ
upvalue_at closed v i g p w = (Ok (Upvalue (record { 0 = i; 1 = g })), set_upvalue_value p v (set_closed p closed w))

unfoldable pub new_upvalue : Bool → Value → Lay → List ℕ → Result Made Refusal × List ℕ
new_upvalue closed v l w = on_new (upvalue_at closed v) (new_object l.upvalues 24 UPVALUE_WORDS w)

unfoldable pub make_open_upvalue : Heap → Result Made Refusal × Heap
make_open_upvalue h = call Err (in_words (new_upvalue false Nil)) h

unfoldable pub closed_in : Value → Lay → List ℕ → Result Made Refusal × List ℕ
closed_in v l w = cond (is_sound l v w) (new_upvalue true v l w) (Err Stale, w)

unfoldable pub make_closed_upvalue : Value → Heap → Result Made Refusal × Heap
make_closed_upvalue v h = call Err (in_words (closed_in v)) h

-- A thread, 256 in the total: stack 0 to 64 (4), and a global that names a table (2).
abbrev pub thread_at : TableRef → ℕ → ℕ → ℕ → ℕ → List ℕ → Result Made Refusal × List ℕ
thread_at global stack i g p w = (Ok (Thread (record { 0 = i; 1 = g })), set_thread_size p stack (set_thread_global p (Some global) w))

unfoldable pub new_thread : TableRef → ℕ → Lay → List ℕ → Result Made Refusal × List ℕ
new_thread global stack l w = on_new (thread_at global stack) (new_object l.threads 256 (thread_extent stack) w)

unfoldable pub thread_in : TableRef → ℕ → Lay → List ℕ → Result Made Refusal × List ℕ
thread_in global stack l w =
    if_lt 64 stack (Err OutOfRange, w)
    (cond (is_table l global w) (new_thread global stack l w) (Err Stale, w))

unfoldable pub make_thread : TableRef → ℕ → Heap → Result Made Refusal × Heap
make_thread global stack h = call Err (in_words (thread_in global stack)) h
