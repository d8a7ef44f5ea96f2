-- The call that gives a thread its hook function: 1 and 8 as every call, then 2 for a handle that names no thread or a value that
-- names no object. Giving a thread its hook calls the forward barrier. A push of it onto a full working list sets the damage
-- mark, and then the answer is 8. Assumes nothing.
use Rattle.std.specs.Prelude.{cond, List, ℕ, Ok, Err, Result}
use Rattle.base.specs.Heap.{Heap}
use Rattle.base.specs.declared.Refusal.TheVariants.{Stale}
use Rattle.base.specs.declared.Refusal.{Refusal}
use Rattle.value.specs.declared.ThreadRef.{ThreadRef}
use Rattle.value.specs.declared.Value.{Value}
use Rattle.layout.specs.declared.Lay.{Lay}
use Rattle.run_record.specs.Threads.{set_thread_hook}
use Rattle.mark.specs.Words.{ops, shade}
use Rattle.propagate.specs.Barriers.{barrier_forward}
use Rattle.test1.specs.Calls.{call_marked, in_words}
use Rattle.given.specs.Given.{is_sound}
use Rattle.owners.specs.Owners.{on_thread}

-- The record of thread t is at p: the value is stored, then the barrier acts by the colour of the thread.
unfoldable pub hook_at : Lay → ThreadRef → Value → ℕ → List ℕ → Result Unit Refusal × List ℕ
hook_at l t v p w =
    let stored = set_thread_hook p v w in
    cond (is_sound l v w)
    (Ok tt, barrier_forward (ops l) l (shade l.threads t.0 t.1 stored) v stored)
    (Err Stale, w)

abbrev pub thread_set_hook_in : ThreadRef → Value → Lay → List ℕ → Result Unit Refusal × List ℕ
thread_set_hook_in t v l w = on_thread Err (hook_at l t v) l t w

unfoldable pub thread_set_hook : ThreadRef → Value → Heap → Result Unit Refusal × Heap
thread_set_hook t v h = call_marked Err (in_words (thread_set_hook_in t v)) h
