-- A table's record, 580 words:
--     0, 1      metatable, a handle that may be missing
--     2         size of the array, 0 to 64
--     3         number of nodes: 0, 1, 2, 4, 8, 16, 32 or 64
--     4 ..      the array's values, 3 words each
--     then      the nodes, 6 words each: key, value. They begin at 4 + 3 * array.
-- Assumes nothing.
use Rattle.std.specs.Prelude.{List, ℕ, ◌+◌, ◌*◌, Option}
use Rattle.base.specs.Ways.{if_eq}
use Rattle.base.specs.Words.{at, put, bounded}
use Rattle.value.specs.declared.TableRef.{TableRef}
use Rattle.value.specs.declared.Value.{Value}
use Rattle.value.specs.Values.{value_at, put_value}
use Rattle.value.specs.Handles.{table_or_at, put_table_or}

abbrev pub table_meta : ℕ → List ℕ → Option TableRef
table_meta p w = table_or_at w p

abbrev pub set_table_meta : ℕ → Option TableRef → List ℕ → List ℕ
set_table_meta p t w = put_table_or p t w

-- A size outside its range reads as 0.
abbrev pub array_size : ℕ → List ℕ → ℕ
array_size p w = bounded (at w (p + 2)) 64

-- A number of nodes that is no power of two up to 64 reads as 0.
unfoldable pub node_number : ℕ → ℕ
node_number n =
    if_eq n 1 1
    (if_eq n 2 2
    (if_eq n 4 4
    (if_eq n 8 8
    (if_eq n 16 16
    (if_eq n 32 32
    (if_eq n 64 64
    0))))))

abbrev pub node_count : ℕ → List ℕ → ℕ
node_count p w = node_number (at w (p + 3))

abbrev pub set_table_sizes : ℕ → ℕ → ℕ → List ℕ → List ℕ
set_table_sizes p a n w = put (p + 3) n (put (p + 2) a w)

-- the words that a table of these sizes takes
abbrev pub table_extent : ℕ → ℕ → ℕ
table_extent a n = 4 + 3 * a + 6 * n

abbrev pub array_place : ℕ → ℕ → ℕ
array_place p i = p + 4 + 3 * i

abbrev pub array_value : ℕ → ℕ → List ℕ → Value
array_value p i w = value_at w (array_place p i)

abbrev pub set_array_value : ℕ → ℕ → Value → List ℕ → List ℕ
set_array_value p i v w = put_value (array_place p i) v w

-- A node is its key and its value.
abbrev pub node_place : ℕ → ℕ → List ℕ → ℕ
node_place p j w = p + 4 + 3 * array_size p w + 6 * j

abbrev pub node_key : ℕ → ℕ → List ℕ → Value
node_key p j w = value_at w (node_place p j w)

abbrev pub node_value : ℕ → ℕ → List ℕ → Value
node_value p j w = value_at w (node_place p j w + 3)

unfoldable pub put_node : ℕ → Value → Value → List ℕ → List ℕ
put_node q k v w = put_value (q + 3) v (put_value q k w)

abbrev pub set_node : ℕ → ℕ → Value → Value → List ℕ → List ℕ
set_node p j k v w = put_node (node_place p j w) k v w

-- A dead node loses its value and keeps its key.
abbrev pub set_node_value : ℕ → ℕ → Value → List ℕ → List ℕ
set_node_value p j v w = put_value (node_place p j w + 3) v w
