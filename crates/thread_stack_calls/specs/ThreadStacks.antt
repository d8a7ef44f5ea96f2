-- The calls that push onto a thread's stack and pop from it: 1 and 8 as every call, 2 for a handle that names no thread, then 5
-- for a pop of an empty stack, 4 for a push onto a full one, 2 for a value that names no occupied slot of its kind. No barrier: a
-- thread that was traversed is listed, and is visited again in the atomic phase. Assumes nothing.
use Rattle.std.specs.Prelude.{List, ℕ, Err, Result}
use Rattle.base.specs.Heap.{Heap}
use Rattle.base.specs.declared.Refusal.{Refusal}
use Rattle.value.specs.declared.ThreadRef.{ThreadRef}
use Rattle.value.specs.declared.Value.{Value}
use Rattle.layout.specs.declared.Lay.{Lay}
use Rattle.test1.specs.Calls.{call, in_words}
use Rattle.stacks.specs.Values.{push_value, pop_value}
use Rattle.owners.specs.Owners.{thread_stack, on_thread}

abbrev pub thread_push_in : ThreadRef → Value → Lay → List ℕ → Result Unit Refusal × List ℕ
thread_push_in t v l w = on_thread Err (λ p u. push_value l (thread_stack p u) v u) l t w

unfoldable pub thread_push : ThreadRef → Value → Heap → Result Unit Refusal × Heap
thread_push t v h = call Err (in_words (thread_push_in t v)) h

-- A pop leaves its value there.
abbrev pub thread_pop_in : ThreadRef → Lay → List ℕ → Result Value Refusal × List ℕ
thread_pop_in t l w = on_thread Err (λ p u. pop_value (thread_stack p u) u) l t w

unfoldable pub thread_pop : ThreadRef → Heap → Result Value Refusal × Heap
thread_pop t h = call Err (in_words (thread_pop_in t)) h
