-- Each writer of a field stores within its own record: `Only p STRIDE`. With Stores and Bodies this gives that other records,
-- and what lies below the boundary, stay. Assumes nothing.
use Rattle.std.specs.Prelude.{refl, Bool, List, ℕ, ◌+◌, ◌*◌, ◌≤◌, ◌<◌, Option}
use Rattle.std.proofs.Math.Decide.{dec_le}
use Rattle.std.proofs.Common.{arith}
use Rattle.base.specs.Ways.{le_yes, le_no}
use Rattle.base.specs.Words.{at, put, bounded}
use Rattle.value.specs.declared.TableRef.{TableRef}
use Rattle.value.specs.declared.Value.{Value}
use Rattle.value.specs.declared.UpvalRef.{UpvalRef}
use Rattle.value.specs.Values.{put_value}
use Rattle.record.specs.Strings.{set_string_length}
use Rattle.record.specs.Tables.{set_table_meta, set_table_sizes, array_place, set_array_value, node_place, put_node, set_node, set_node_value}
use Rattle.run_record.specs.Closures.{set_rust, set_closure_env, set_closure_proto, set_closure_count, set_closure_upvalue, set_closure_value}
use Rattle.run_record.specs.Upvalues.{set_closed, set_upvalue_value}
use Rattle.record.specs.Userdata.{set_ud_meta, set_ud_env, set_ud_creation, set_ud_finalized}
use Rattle.run_record.specs.Threads.{set_thread_global, set_thread_hook, set_thread_error, set_thread_size, set_thread_top, set_thread_open_count, set_thread_suspended_count, set_thread_open, set_thread_suspended, set_thread_value}
use Rattle.record_laws.specs.Stores.{Only, only_then, only_in, only_put, only_value, only_table, only_upval, only_64, only_flag}

-- a size or count is within its range
pub bounded_most : (x most : ℕ) → bounded x most ≤ most
bounded_most x most = go (dec_le x most)
  where
    go : Dec (x ≤ most) → bounded x most ≤ most
    go (yes h) = omega (arith, le_yes x most x 0 x h refl)
    go (no h) = omega (arith, le_no x most x 0 0 (omega arith) refl)

module _ (p : ℕ) (w : List ℕ) where
  -- string
  pub string_length_only : (n : ℕ) → Only p 1 w (set_string_length p n w)
  string_length_only n = only_put p n w

  -- table
  pub table_meta_only : (t : Option TableRef) → Only p 580 w (set_table_meta p t w)
  table_meta_only t = only_in p 580 (only_table p t w) (omega arith) (omega arith)

  pub table_sizes_only : (a n : ℕ) → Only p 580 w (set_table_sizes p a n w)
  table_sizes_only a n =
      only_then
      (only_in p 580 (only_put (p + 2) a w) (omega arith) (omega arith))
      (only_in p 580 (only_put (p + 3) n (put (p + 2) a w)) (omega arith) (omega arith))

  pub array_value_only : (i : ℕ) (v : Value) → i < 64 → Only p 580 w (set_array_value p i v w)
  array_value_only i v h = only_in p 580 (only_value (array_place p i) v w) (omega arith) (omega arith)

  pub node_value_only : (j : ℕ) (v : Value) → j < 64 → Only p 580 w (set_node_value p j v w)
  node_value_only j v h =
      only_in p 580 (only_value (node_place p j w + 3) v w) (omega arith)
      (omega (arith, bounded_most (at w (p + 2)) 64))

  -- closure
  pub rust_only : (b : Bool) → Only p 53 w (set_rust p b w)
  rust_only b = only_in p 53 (only_flag p b w) (omega arith) (omega arith)

  pub closure_env_only : (t : Option TableRef) → Only p 53 w (set_closure_env p t w)
  closure_env_only t = only_in p 53 (only_table (p + 1) t w) (omega arith) (omega arith)

  pub closure_proto_only : (n : ℕ) → Only p 53 w (set_closure_proto p n w)
  closure_proto_only n = only_in p 53 (only_put (p + 3) n w) (omega arith) (omega arith)

  pub closure_count_only : (n : ℕ) → Only p 53 w (set_closure_count p n w)
  closure_count_only n = only_in p 53 (only_put (p + 4) n w) (omega arith) (omega arith)

  pub closure_upvalue_only : (i : ℕ) (u : UpvalRef) → i < 16 → Only p 53 w (set_closure_upvalue p i u w)
  closure_upvalue_only i u h = only_in p 53 (only_upval (p + 5 + 2 * i) u w) (omega arith) (omega arith)

  pub closure_value_only : (i : ℕ) (v : Value) → i < 16 → Only p 53 w (set_closure_value p i v w)
  closure_value_only i v h = only_in p 53 (only_value (p + 5 + 3 * i) v w) (omega arith) (omega arith)

  -- upvalue
  pub closed_only : (b : Bool) → Only p 4 w (set_closed p b w)
  closed_only b = only_in p 4 (only_flag p b w) (omega arith) (omega arith)

  pub upvalue_value_only : (v : Value) → Only p 4 w (set_upvalue_value p v w)
  upvalue_value_only v = only_in p 4 (only_value (p + 1) v w) (omega arith) (omega arith)

  -- userdata
  pub ud_meta_only : (t : Option TableRef) → Only p 7 w (set_ud_meta p t w)
  ud_meta_only t = only_in p 7 (only_table p t w) (omega arith) (omega arith)

  pub ud_env_only : (t : Option TableRef) → Only p 7 w (set_ud_env p t w)
  ud_env_only t = only_in p 7 (only_table (p + 2) t w) (omega arith) (omega arith)

  pub ud_creation_only : (x : ℕ) → Only p 7 w (set_ud_creation p x w)
  ud_creation_only x = only_in p 7 (only_64 (p + 4) x w) (omega arith) (omega arith)

  pub ud_finalized_only : (b : Bool) → Only p 7 w (set_ud_finalized p b w)
  ud_finalized_only b = only_in p 7 (only_flag (p + 6) b w) (omega arith) (omega arith)

  -- thread
  pub thread_global_only : (t : Option TableRef) → Only p 268 w (set_thread_global p t w)
  thread_global_only t = only_in p 268 (only_table p t w) (omega arith) (omega arith)

  pub thread_hook_only : (v : Value) → Only p 268 w (set_thread_hook p v w)
  thread_hook_only v = only_in p 268 (only_value (p + 2) v w) (omega arith) (omega arith)

  pub thread_error_only : (v : Value) → Only p 268 w (set_thread_error p v w)
  thread_error_only v = only_in p 268 (only_value (p + 5) v w) (omega arith) (omega arith)

  pub thread_size_only : (n : ℕ) → Only p 268 w (set_thread_size p n w)
  thread_size_only n = only_in p 268 (only_put (p + 8) n w) (omega arith) (omega arith)

  pub thread_top_only : (n : ℕ) → Only p 268 w (set_thread_top p n w)
  thread_top_only n = only_in p 268 (only_put (p + 9) n w) (omega arith) (omega arith)

  pub thread_open_count_only : (n : ℕ) → Only p 268 w (set_thread_open_count p n w)
  thread_open_count_only n = only_in p 268 (only_put (p + 10) n w) (omega arith) (omega arith)

  pub thread_suspended_count_only : (n : ℕ) → Only p 268 w (set_thread_suspended_count p n w)
  thread_suspended_count_only n = only_in p 268 (only_put (p + 11) n w) (omega arith) (omega arith)

  pub thread_open_only : (i : ℕ) (u : UpvalRef) → i < 16 → Only p 268 w (set_thread_open p i u w)
  thread_open_only i u h = only_in p 268 (only_upval (p + 12 + 2 * i) u w) (omega arith) (omega arith)

  pub thread_suspended_only : (i : ℕ) (u : UpvalRef) → i < 16 → Only p 268 w (set_thread_suspended p i u w)
  thread_suspended_only i u h = only_in p 268 (only_upval (p + 44 + 2 * i) u w) (omega arith) (omega arith)

  pub thread_value_only : (i : ℕ) (v : Value) → i < 64 → Only p 268 w (set_thread_value p i v w)
  thread_value_only i v h = only_in p 268 (only_value (p + 76 + 3 * i) v w) (omega arith) (omega arith)

-- a node: six words from q on
pub node_six : (q : ℕ) (k v : Value) (w : List ℕ) → Only q 6 w (put_node q k v w)
unfolding put_node
node_six q k v w =
    only_then
    (only_in q 6 (only_value q k w) (omega arith) (omega arith))
    (only_in q 6 (only_value (q + 3) v (put_value q k w)) (omega arith) (omega arith))

pub node_only : (p j : ℕ) (k v : Value) (w : List ℕ) → j < 64 → Only p 580 w (set_node p j k v w)
node_only p j k v w h =
    only_in p 580 (node_six (node_place p j w) k v w) (omega arith) (omega (arith, bounded_most (at w (p + 2)) 64))
