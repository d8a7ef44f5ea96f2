-- The calls that give a thread its global table and its error value: 1 and 8 as every call, then 2 for a handle that names no
-- thread, no table or no object. No barrier: a thread that was traversed is listed, and is visited again in the atomic phase;
-- its error value is not followed. Assumes nothing.
use Rattle.std.specs.Prelude.{cond, List, ℕ, ◌+◌, Some, Ok, Err, Result}
use Rattle.base.specs.Heap.{Heap}
use Rattle.base.specs.declared.Refusal.TheVariants.{Stale}
use Rattle.base.specs.declared.Refusal.{Refusal}
use Rattle.value.specs.declared.TableRef.{TableRef}
use Rattle.value.specs.declared.ThreadRef.{ThreadRef}
use Rattle.value.specs.declared.Value.{Value}
use Rattle.layout.specs.declared.Lay.{Lay}
use Rattle.run_record.specs.Threads.{set_thread_global}
use Rattle.test1.specs.Calls.{call, in_words}
use Rattle.given.specs.Given.{is_table}
use Rattle.stacks.specs.Places.{store_value}
use Rattle.owners.specs.Owners.{on_thread}

-- The record of the thread is at p.
unfoldable pub global_at : Lay → TableRef → ℕ → List ℕ → Result Unit Refusal × List ℕ
global_at l g p w = cond (is_table l g w) (Ok tt, set_thread_global p (Some g) w) (Err Stale, w)

abbrev pub thread_set_global_in : ThreadRef → TableRef → Lay → List ℕ → Result Unit Refusal × List ℕ
thread_set_global_in t g l w = on_thread Err (global_at l g) l t w

unfoldable pub thread_set_global : ThreadRef → TableRef → Heap → Result Unit Refusal × Heap
thread_set_global t g h = call Err (in_words (thread_set_global_in t g)) h

-- Its error value stands in words 5 to 7 of the record.
abbrev pub thread_set_error_in : ThreadRef → Value → Lay → List ℕ → Result Unit Refusal × List ℕ
thread_set_error_in t v l w = on_thread Err (λ p u. store_value l (p + 5) v u) l t w

unfoldable pub thread_set_error : ThreadRef → Value → Heap → Result Unit Refusal × Heap
thread_set_error t v h = call Err (in_words (thread_set_error_in t v)) h
