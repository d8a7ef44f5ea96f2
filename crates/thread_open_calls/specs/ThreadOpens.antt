-- The calls that change a thread's open upvalues: 1 and 8 as every call, 2 for a handle that names no thread, then 4 for a
-- push onto a full list or a length past its count, 2 for a handle that names no upvalue. No barrier: a thread that was
-- traversed is listed, and is visited again in the atomic phase. Assumes nothing.
use Rattle.std.specs.Prelude.{List, ℕ, Err, Result}
use Rattle.base.specs.Heap.{Heap}
use Rattle.base.specs.declared.Refusal.{Refusal}
use Rattle.value.specs.declared.ThreadRef.{ThreadRef}
use Rattle.value.specs.declared.UpvalRef.{UpvalRef}
use Rattle.layout.specs.declared.Lay.{Lay}
use Rattle.test1.specs.Calls.{call, in_words}
use Rattle.upvalue_lists.specs.Lists.{push_upvalue, cut_upvalues}
use Rattle.owners.specs.Owners.{thread_opens, on_thread}

abbrev pub thread_open_push_in : ThreadRef → UpvalRef → Lay → List ℕ → Result Unit Refusal × List ℕ
thread_open_push_in t x l w = on_thread Err (λ p u. push_upvalue l (thread_opens p u) x u) l t w

unfoldable pub thread_open_push : ThreadRef → UpvalRef → Heap → Result Unit Refusal × Heap
thread_open_push t x h = call Err (in_words (thread_open_push_in t x)) h

-- The first n stay.
abbrev pub thread_open_cut_in : ThreadRef → ℕ → Lay → List ℕ → Result Unit Refusal × List ℕ
thread_open_cut_in t n l w = on_thread Err (λ p u. cut_upvalues (thread_opens p u) n u) l t w

unfoldable pub thread_open_cut : ThreadRef → ℕ → Heap → Result Unit Refusal × Heap
thread_open_cut t n h = call Err (in_words (thread_open_cut_in t n)) h
