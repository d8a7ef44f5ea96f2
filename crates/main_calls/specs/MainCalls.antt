-- The calls that change the main open list, the error value and the hook function: 1 and 8 as every call, then 4, then 2. No
-- barrier: the main thread is marked again in the atomic phase. Assumes nothing.
use Rattle.std.specs.Prelude.{List, ℕ, Err, Result}
use Rattle.base.specs.Heap.{Heap}
use Rattle.base.specs.declared.Refusal.{Refusal}
use Rattle.value.specs.declared.UpvalRef.{UpvalRef}
use Rattle.value.specs.declared.Value.{Value}
use Rattle.layout.specs.declared.Lay.{Lay}
use Rattle.layout.specs.Places.{ERROR, HOOK}
use Rattle.test1.specs.Calls.{call, in_words}
use Rattle.stacks.specs.Places.{store_value}
use Rattle.upvalue_lists.specs.Lists.{push_upvalue, cut_upvalues}
use Rattle.owners.specs.Owners.{main_opens}

-- A push onto a full list is 4, a handle that names no upvalue 2.
abbrev pub open_push_in : UpvalRef → Lay → List ℕ → Result Unit Refusal × List ℕ
open_push_in u l w = push_upvalue l (main_opens l w) u w

unfoldable pub open_push : UpvalRef → Heap → Result Unit Refusal × Heap
open_push u h = call Err (in_words (open_push_in u)) h

-- The first n stay; a length outside its range is 4.
abbrev pub open_cut_in : ℕ → Lay → List ℕ → Result Unit Refusal × List ℕ
open_cut_in n l w = cut_upvalues (main_opens l w) n w

unfoldable pub open_cut : ℕ → Heap → Result Unit Refusal × Heap
open_cut n h = call Err (in_words (open_cut_in n)) h

-- A value that names no occupied slot of its kind is 2.
abbrev pub set_error_in : Value → Lay → List ℕ → Result Unit Refusal × List ℕ
set_error_in v l w = store_value l ERROR v w

unfoldable pub set_error : Value → Heap → Result Unit Refusal × Heap
set_error v h = call Err (in_words (set_error_in v)) h

abbrev pub set_hook_in : Value → Lay → List ℕ → Result Unit Refusal × List ℕ
set_hook_in v l w = store_value l HOOK v w

unfoldable pub set_hook : Value → Heap → Result Unit Refusal × Heap
set_hook v h = call Err (in_words (set_hook_in v)) h
