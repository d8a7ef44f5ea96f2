-- The fields of one table: a write to one leaves the others. Each is an instance of `Stores` at places that are apart.
-- Assumes nothing.
use Rattle.std.specs.Prelude.{◌≡◌, refl, List, ◌⊎◌, ◌≢◌, ℕ, ◌+◌, ◌*◌, ◌≤◌, ◌<◌, length}
use Rattle.std.proofs.Math.Path.{ap}
use Rattle.std.proofs.Common.{◌∙◌, inl, inr, arith}
use Rattle.std.proofs.Math.Decide.{dec_lt}
use Rattle.value.specs.declared.Value.{Value}
use Rattle.value.specs.Values.{value_at, put_value}
use Rattle.value.specs.Laws.{value_back, value_long}
use Rattle.record.specs.Tables.{table_meta, array_size, array_place, array_value, set_array_value, node_place, node_key, node_value, put_node, set_node, set_node_value}
use Rattle.record_laws.specs.Stores.{Apart, only_value, value_stays, count_stays, table_stays}
use Rattle.record_laws.specs.Writers.{node_six}

-- two of the values, or of the nodes, from p on, s words each, are apart
pub rows_apart : (p s i j : ℕ) → i ≢ j → (s ≡ 3) ⊎ (s ≡ 6) → Apart (p + s * i) s (p + s * j) s
rows_apart p s i j d (inl e) = rw e (go (dec_lt i j))
  where
    go : Dec (i < j) → Apart (p + 3 * i) 3 (p + 3 * j) 3
    go (yes h) = inr (omega arith)
    go (no h) = inl (omega arith)
rows_apart p s i j d (inr e) = rw e (go (dec_lt i j))
  where
    go : Dec (i < j) → Apart (p + 6 * i) 6 (p + 6 * j) 6
    go (yes h) = inr (omega arith)
    go (no h) = inl (omega arith)

-- a write to an array's value leaves the metatable, the sizes and the other values
module _ (p i : ℕ) (v : Value) (w : List ℕ) where
  pub array_meta : table_meta p (set_array_value p i v w) ≡ table_meta p w
  array_meta = table_stays (only_value (array_place p i) v w) p (inl (omega arith))

  pub array_size_lem : array_size p (set_array_value p i v w) ≡ array_size p w
  array_size_lem = count_stays (only_value (array_place p i) v w) (p + 2) 64 (inl (omega arith))

  pub array_back : array_place p i + 2 < length w → array_value p i (set_array_value p i v w) ≡ v
  array_back h = value_back (array_place p i) v w h

  pub array_other : (j : ℕ) → i ≢ j → array_value p j (set_array_value p i v w) ≡ array_value p j w
  array_other j d = value_stays (only_value (array_place p i) v w) (array_place p j) (rows_apart (p + 4) 3 i j d (inl refl))

-- a node written leaves the metatable, the sizes, the array and the other nodes
module _ (p j : ℕ) (k v : Value) (w : List ℕ) where
  pub node_meta : table_meta p (set_node p j k v w) ≡ table_meta p w
  node_meta = table_stays (node_six (node_place p j w) k v w) p (inl (omega arith))

  pub node_array_size : array_size p (set_node p j k v w) ≡ array_size p w
  node_array_size = count_stays (node_six (node_place p j w) k v w) (p + 2) 64 (inl (omega arith))

  pub node_array : (i : ℕ) → i < array_size p w → array_value p i (set_node p j k v w) ≡ array_value p i w
  node_array i h = value_stays (node_six (node_place p j w) k v w) (array_place p i) (inl (omega arith))

  node_moved : (i : ℕ) → node_place p i (set_node p j k v w) ≡ node_place p i w
  node_moved i = ap (λ (a : ℕ). p + 4 + 3 * a + 6 * i) node_array_size

  pub node_other_key : (i : ℕ) → j ≢ i → node_key p i (set_node p j k v w) ≡ node_key p i w
  node_other_key i d =
      ap (value_at (set_node p j k v w)) (node_moved i)
      ∙ value_stays (node_six (node_place p j w) k v w) (node_place p i w) (side (rows_apart (p + 4 + 3 * array_size p w) 6 j i d (inr refl)))
    where
      side : Apart (node_place p j w) 6 (node_place p i w) 6 → Apart (node_place p j w) 6 (node_place p i w) 3
      side (inl h) = inl (omega arith)
      side (inr h) = inr (omega arith)

  pub node_other_value : (i : ℕ) → j ≢ i → node_value p i (set_node p j k v w) ≡ node_value p i w
  node_other_value i d =
      ap (λ (q : ℕ). value_at (set_node p j k v w) (q + 3)) (node_moved i)
      ∙ value_stays (node_six (node_place p j w) k v w) (node_place p i w + 3) (side (rows_apart (p + 4 + 3 * array_size p w) 6 j i d (inr refl)))
    where
      side : Apart (node_place p j w) 6 (node_place p i w) 6 → Apart (node_place p j w) 6 (node_place p i w + 3) 3
      side (inl h) = inl (omega arith)
      side (inr h) = inr (omega arith)

  pub node_key_back : node_place p j w + 6 ≤ length w → node_key p j (set_node p j k v w) ≡ k
  unfolding put_node
  node_key_back h =
      ap (value_at (set_node p j k v w)) (node_moved j)
      ∙ value_stays (only_value (node_place p j w + 3) v (put_value (node_place p j w) k w)) (node_place p j w) (inl (omega arith))
      ∙ value_back (node_place p j w) k w (omega arith)

  pub node_value_back : node_place p j w + 6 ≤ length w → node_value p j (set_node p j k v w) ≡ v
  unfolding put_node
  node_value_back h =
      ap (λ (q : ℕ). value_at (set_node p j k v w) (q + 3)) (node_moved j)
      ∙ value_back (node_place p j w + 3) v (put_value (node_place p j w) k w) (omega (arith, value_long (node_place p j w) k w))

-- a node that loses its value keeps its key
pub node_keeps_key : (p j : ℕ) (v : Value) (w : List ℕ) → node_key p j (set_node_value p j v w) ≡ node_key p j w
node_keeps_key p j v w =
    ap (λ (a : ℕ). value_at (set_node_value p j v w) (p + 4 + 3 * a + 6 * j)) (count_stays (only_value (node_place p j w + 3) v w) (p + 2) 64 (inl (omega arith)))
    ∙ value_stays (only_value (node_place p j w + 3) v w) (node_place p j w) (inl (omega arith))
