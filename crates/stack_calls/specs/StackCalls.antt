-- The calls that change the main stack: 1 and 8 as every call, then 5 for a pop of an empty stack, 4 for a push onto a full one
-- or an index or top past its size, 2 for a value that names no occupied slot of its kind. No barrier: the main thread is
-- marked again in the atomic phase. Assumes nothing.
use Rattle.std.specs.Prelude.{List, ℕ, Err, Result}
use Rattle.base.specs.Heap.{Heap}
use Rattle.base.specs.declared.Refusal.{Refusal}
use Rattle.value.specs.declared.Value.{Value}
use Rattle.layout.specs.declared.Lay.{Lay}
use Rattle.test1.specs.Calls.{call, in_words}
use Rattle.stacks.specs.Values.{push_value, pop_value, set_value, set_height}
use Rattle.owners.specs.Owners.{main_stack}

abbrev pub push_in : Value → Lay → List ℕ → Result Unit Refusal × List ℕ
push_in v l w = push_value l (main_stack l w) v w

unfoldable pub push : Value → Heap → Result Unit Refusal × Heap
push v h = call Err (in_words (push_in v)) h

-- A pop leaves its value there.
abbrev pub pop_in : Lay → List ℕ → Result Value Refusal × List ℕ
pop_in l w = pop_value (main_stack l w) w

unfoldable pub pop : Heap → Result Value Refusal × Heap
pop h = call Err (in_words pop_in) h

abbrev pub stack_set_in : ℕ → Value → Lay → List ℕ → Result Unit Refusal × List ℕ
stack_set_in i v l w = set_value l (main_stack l w) i v w

unfoldable pub stack_set : ℕ → Value → Heap → Result Unit Refusal × Heap
stack_set i v h = call Err (in_words (stack_set_in i v)) h

-- Raising a stack fills with nil.
abbrev pub set_top_in : ℕ → Lay → List ℕ → Result Unit Refusal × List ℕ
set_top_in n l w = set_height (main_stack l w) n w

unfoldable pub set_top : ℕ → Heap → Result Unit Refusal × Heap
set_top n h = call Err (in_words (set_top_in n)) h
