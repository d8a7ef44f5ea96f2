-- The calls that close an upvalue over a value, or set a closed one: 1 and 8 as every call, then 5, then 2. Row 5 speaks of the
-- upvalue's record, so it holds only if the upvalue is named: one that names nothing is 2. The barrier follows the store; where
-- the work set the damage mark the answer is 8. Assumes nothing.
use Rattle.std.specs.Prelude.{true, false, cond, Bool, List, ℕ, Ok, Err, Result}
use Rattle.base.specs.Heap.{Heap}
use Rattle.base.specs.declared.Refusal.TheVariants.{Stale, WrongState}
use Rattle.base.specs.declared.Refusal.{Refusal}
use Rattle.value.specs.declared.UpvalRef.{UpvalRef}
use Rattle.value.specs.declared.Value.{Value}
use Rattle.layout.specs.declared.Lay.{Lay}
use Rattle.run_record.specs.Upvalues.{is_closed, set_closed, set_upvalue_value}
use Rattle.test1.specs.Calls.{call_marked, in_words}
use Rattle.given.specs.Answers.{on_named}
use Rattle.given.specs.Given.{is_sound}
use Rattle.mark.specs.Words.{shade, ops}
use Rattle.propagate.specs.Barriers.{barrier_forward}

-- Upvalue u, whose record is at p, is closed over a value: one that names no occupied slot of its kind is 2. Closing or setting an
-- upvalue calls the forward barrier, with the upvalue as the parent.
unfoldable pub store_closed : Lay → UpvalRef → Value → ℕ → List ℕ → Result Unit Refusal × List ℕ
store_closed l u v p w =
    let w₁ = set_upvalue_value p v (set_closed p true w) in
    cond (is_sound l v w)
    (Ok tt, barrier_forward (ops l) l (shade l.upvalues u.0 u.1 w₁) v w₁)
    (Err Stale, w)

-- Closing a closed upvalue is 5.
unfoldable pub close_at : Lay → UpvalRef → Value → ℕ → List ℕ → Result Unit Refusal × List ℕ
close_at l u v p w = cond (is_closed p w) (Err WrongState, w) (store_closed l u v p w)

unfoldable pub upvalue_close_in : UpvalRef → Value → Lay → List ℕ → Result Unit Refusal × List ℕ
upvalue_close_in u v l w = on_named l.upvalues u.0 u.1 (close_at l u v) w

unfoldable pub upvalue_close : UpvalRef → Value → Heap → Result Unit Refusal × Heap
upvalue_close u v h = call_marked Err (in_words (upvalue_close_in u v)) h

-- Setting an open upvalue is 5.
unfoldable pub set_at : Lay → UpvalRef → Value → ℕ → List ℕ → Result Unit Refusal × List ℕ
set_at l u v p w = cond (is_closed p w) (store_closed l u v p w) (Err WrongState, w)

unfoldable pub upvalue_set_in : UpvalRef → Value → Lay → List ℕ → Result Unit Refusal × List ℕ
upvalue_set_in u v l w = on_named l.upvalues u.0 u.1 (set_at l u v) w

unfoldable pub upvalue_set : UpvalRef → Value → Heap → Result Unit Refusal × Heap
upvalue_set u v h = call_marked Err (in_words (upvalue_set_in u v)) h

-- Either, by whether the upvalue has to be closed.
abbrev pub store_at : Bool → Lay → UpvalRef → Value → ℕ → List ℕ → Result Unit Refusal × List ℕ
store_at false l u v p w = close_at l u v p w
store_at true l u v p w = set_at l u v p w

abbrev pub store_in : Bool → UpvalRef → Value → Lay → List ℕ → Result Unit Refusal × List ℕ
store_in false u v l w = upvalue_close_in u v l w
store_in true u v l w = upvalue_set_in u v l w
