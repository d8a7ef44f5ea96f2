-- The calls that store in a table's array, or give it a metatable: 1 and 8 as every call, then 4, then 2. A condition of row 4 or
-- 5 that speaks of an owner's record holds only if the owner is named: a table that names nothing is 2, whatever the index. The
-- barrier follows the store; where the work set the damage mark the answer is 8. Assumes nothing.
use Rattle.std.specs.Prelude.{cond, List, ℕ, Ok, Err, Option, Result}
use Rattle.base.specs.Ways.{if_le}
use Rattle.base.specs.Heap.{Heap}
use Rattle.base.specs.declared.Refusal.TheVariants.{Stale, OutOfRange}
use Rattle.base.specs.declared.Refusal.{Refusal}
use Rattle.value.specs.declared.TableRef.{TableRef}
use Rattle.value.specs.declared.Value.{Value}
use Rattle.layout.specs.declared.Lay.{Lay}
use Rattle.record.specs.Tables.{array_size, set_array_value, set_table_meta}
use Rattle.test1.specs.Calls.{call_marked, in_words}
use Rattle.given.specs.Answers.{on_named}
use Rattle.given.specs.Given.{is_sound, is_table_or}
use Rattle.mark.specs.Words.{ops}
use Rattle.propagate.specs.Barriers.{barrier_back}

-- Place i of the array of table t, whose record is at p. An index outside its range is 4; a value that names no occupied slot of
-- its kind is 2. Storing in a table calls `barrier_back`.
unfoldable pub store_at : Lay → TableRef → ℕ → Value → ℕ → List ℕ → Result Unit Refusal × List ℕ
store_at l t i v p w =
    if_le (array_size p w) i (Err OutOfRange, w)
    (cond (is_sound l v w)
    (Ok tt, barrier_back (ops l) t (set_array_value p i v w))
    (Err Stale, w))

unfoldable pub table_set_in : TableRef → ℕ → Value → Lay → List ℕ → Result Unit Refusal × List ℕ
table_set_in t i v l w = on_named l.tables t.0 t.1 (store_at l t i v) w

unfoldable pub table_set : TableRef → ℕ → Value → Heap → Result Unit Refusal × Heap
table_set t i v h = call_marked Err (in_words (table_set_in t i v)) h

-- The metatable of table t, whose record is at p: one that is given and names no table is 2. Giving a table a metatable calls
-- `barrier_back`, taking it away too.
unfoldable pub store_meta : Lay → TableRef → Option TableRef → ℕ → List ℕ → Result Unit Refusal × List ℕ
store_meta l t m p w =
    cond (is_table_or l m w)
    (Ok tt, barrier_back (ops l) t (set_table_meta p m w))
    (Err Stale, w)

unfoldable pub table_set_meta_in : TableRef → Option TableRef → Lay → List ℕ → Result Unit Refusal × List ℕ
table_set_meta_in t m l w = on_named l.tables t.0 t.1 (store_meta l t m) w

unfoldable pub table_set_meta : TableRef → Option TableRef → Heap → Result Unit Refusal × Heap
table_set_meta t m h = call_marked Err (in_words (table_set_meta_in t m)) h
