-- The call that stores a key and its value in a node: 1 and 8 as every call, then 4, then 2. A condition of row 4 that speaks of the
-- table's record (the node's place, another node's key) holds only if the table is named: a table that names nothing is 2,
-- whatever the place, but 4 with a NaN key. Assumes nothing.
use Rattle.std.specs.Prelude.{Bool, true, false, cond, List, ℕ, Ok, Err, Result}
use Rattle.base.specs.Ways.{if_le, if_eq}
use Rattle.base.specs.Heap.{Heap}
use Rattle.base.specs.declared.Refusal.TheVariants.{Stale, OutOfRange}
use Rattle.base.specs.declared.Refusal.{Refusal}
use Rattle.value.specs.declared.TableRef.{TableRef}
use Rattle.value.specs.declared.Value.{Value}
use Rattle.value.specs.declared.Value.TheVariants.{Nil, Boolean, Light, Number, Str, Table, Function, Userdata, Thread}
use Rattle.value.specs.Numbers.{is_nan}
use Rattle.value.specs.Values.{is_nil, key_equal}
use Rattle.layout.specs.declared.Lay.{Lay}
use Rattle.record.specs.Tables.{node_count, node_key, set_node}
use Rattle.making.specs.Turns.{turns}
use Rattle.test1.specs.Calls.{call_marked, in_words}
use Rattle.given.specs.Answers.{on_named}
use Rattle.given.specs.Given.{is_sound}
use Rattle.mark.specs.Words.{ops}
use Rattle.propagate.specs.Barriers.{barrier_back}

unfoldable pub is_nan_key : Value → Bool
is_nan_key Nil = false
is_nan_key (Boolean b) = false
is_nan_key (Light x) = false
is_nan_key (Number x) = is_nan x
is_nan_key (Str r) = false
is_nan_key (Table r) = false
is_nan_key (Function r) = false
is_nan_key (Userdata r) = false
is_nan_key (Thread r) = false

-- A node has no NaN key, and no nil key with a value that is not nil. Nil for both is an empty node; a key with nil is allowed.
unfoldable pub is_node : Value → Value → Bool
is_node k v = cond (is_nan_key k) false (cond (is_nil k) (is_nil v) true)

-- Node i is another node than j, and its key equals k: dead keys and keys that name nothing are keys; 0 equals -0.
unfoldable pub is_twin : ℕ → ℕ → Value → List ℕ → ℕ → Bool
is_twin p j k w i = if_eq i j false (key_equal (node_key p i w) k)

-- A turn of the search: found, or the rest of it decides.
unfoldable pub twin_turn : ℕ → ℕ → Value → List ℕ → ℕ → Bool → Bool
twin_turn p j k w i rest = cond (is_twin p j k w i) true rest

-- A key equal to another node's. Nil is no key, and any number of nodes may be empty.
unfoldable pub is_taken : ℕ → ℕ → Value → List ℕ → Bool
is_taken p j k w = cond (is_nil k) false (turns (twin_turn p j k w) false (node_count p w) 0)

-- Node j of table t, whose record is at p. An index outside its range and a key equal to another node's are 4; a key or a value
-- that names no occupied slot of its kind is 2. A node is always stored with key and value. Storing in a table calls
-- `barrier_back`.
unfoldable pub store_node : Lay → TableRef → ℕ → Value → Value → ℕ → List ℕ → Result Unit Refusal × List ℕ
store_node l t j k v p w =
    if_le (node_count p w) j (Err OutOfRange, w)
    (cond (is_taken p j k w) (Err OutOfRange, w)
    (cond (is_sound l k w)
    (cond (is_sound l v w)
    (Ok tt, barrier_back (ops l) t (set_node p j k v w))
    (Err Stale, w))
    (Err Stale, w)))

unfoldable pub table_set_node_in : TableRef → ℕ → Value → Value → Lay → List ℕ → Result Unit Refusal × List ℕ
table_set_node_in t j k v l w =
    cond (is_node k v)
    (on_named l.tables t.0 t.1 (store_node l t j k v) w)
    (Err OutOfRange, w)

unfoldable pub table_set_node : TableRef → ℕ → Value → Value → Heap → Result Unit Refusal × Heap
table_set_node t j k v h = call_marked Err (in_words (table_set_node_in t j k v)) h
