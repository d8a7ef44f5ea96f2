-- The calls that set a place or the top of a thread's stack: 1 and 8 as every call, 2 for a handle that names no thread, then 4
-- for an index or top past its size, 2 for a value that names no occupied slot of its kind. No barrier, as for a push. Assumes
-- nothing.
use Rattle.std.specs.Prelude.{List, ℕ, Err, Result}
use Rattle.base.specs.Heap.{Heap}
use Rattle.base.specs.declared.Refusal.{Refusal}
use Rattle.value.specs.declared.ThreadRef.{ThreadRef}
use Rattle.value.specs.declared.Value.{Value}
use Rattle.layout.specs.declared.Lay.{Lay}
use Rattle.test1.specs.Calls.{call, in_words}
use Rattle.stacks.specs.Values.{set_value, set_height}
use Rattle.owners.specs.Owners.{thread_stack, on_thread}

abbrev pub thread_set_in : ThreadRef → ℕ → Value → Lay → List ℕ → Result Unit Refusal × List ℕ
thread_set_in t i v l w = on_thread Err (λ p u. set_value l (thread_stack p u) i v u) l t w

unfoldable pub thread_set : ThreadRef → ℕ → Value → Heap → Result Unit Refusal × Heap
thread_set t i v h = call Err (in_words (thread_set_in t i v)) h

-- Raising a stack fills with nil.
abbrev pub thread_set_top_in : ThreadRef → ℕ → Lay → List ℕ → Result Unit Refusal × List ℕ
thread_set_top_in t n l w = on_thread Err (λ p u. set_height (thread_stack p u) n u) l t w

unfoldable pub thread_set_top : ThreadRef → ℕ → Heap → Result Unit Refusal × Heap
thread_set_top t n h = call Err (in_words (thread_set_top_in t n)) h
