-- The calls that store in a table, an upvalue or a userdata, or give a type its metatable: a store past the prototypes, or in the main
-- record, and then a barrier. They keep the state. Assumes nothing.
use Rattle.std.specs.Prelude.{List, ℕ, ◌+◌, ◌*◌, ◌≤◌, Some, None, Err, Option, Result}
use Rattle.std.proofs.Common.{arith}
use Rattle.base.specs.Heap.{Heap, heap}
use Rattle.base.specs.declared.Refusal.{Refusal}
use Rattle.value.specs.declared.TableRef.{TableRef}
use Rattle.value.specs.declared.UpvalRef.{UpvalRef}
use Rattle.value.specs.declared.UdRef.{UdRef}
use Rattle.value.specs.declared.Value.{Value}
use Rattle.layout.specs.declared.Lay.{Lay}
use Rattle.layout.specs.Places.{METATABLES}
use Rattle.test1.specs.Calls.{in_words}
use Rattle.laid.specs.Laid.{Laid}
use Rattle.record.specs.Tables.{array_place, node_place, put_node}
use Rattle.given.specs.Given.{is_table_or, is_sound}
use Rattle.run_record.specs.Upvalues.{is_closed}
use Rattle.table_calls.specs.TableCalls.{store_at, table_set_in, table_set, store_meta, table_set_meta_in, table_set_meta}
use Rattle.node_calls.specs.NodeCalls.{is_node, is_taken, store_node, table_set_node_in, table_set_node}
use Rattle.upvalue_calls.specs.UpvalueCalls.{store_closed, close_at, upvalue_close_in, upvalue_close, set_at, upvalue_set_in, upvalue_set}
use Rattle.object_calls.specs.ObjectCalls.{forward_table, forward_from, meta_at, ud_set_meta_in, ud_set_meta, env_at, ud_set_env_in, ud_set_env, set_type_meta_in, set_type_meta}
use Rattle.mark_laws.specs.Apart.{Apart}
use Rattle.room_laws.specs.Tallies.{Ample}
use Rattle.sweep_laws.specs.Places.{Rows}
use Rattle.state_laws.specs.State.{State, state_parted, marked_state}
use Rattle.state_laws.specs.Plains.{lt_both, le_both, cond_both, fields, plainly_none, plainly_handle, past_put, past_handle, past_value, plain_state}
use Rattle.state_laws.specs.Barriers.{back_state, forward_state}
use Rattle.state_call_laws.specs.Places.{named_both}

module _ (l : Lay) (ok : Laid l) (a : Apart l) (r : Rows l) (am : Ample l) (h : Heap) (s : State l h) where
  abbrev w : List ℕ
  w = h.words

  abbrev S : List ℕ → Type 0
  S u = State l (heap u h.bytes)

  -- what a choice of answers leaves
  abbrev T : Result Unit Refusal × List ℕ → Type 0
  T x = State l (heap x.1 h.bytes)

  -- A table's array, its nodes, its metatable: the backward barrier.
  pub table_set_keeps : (t : TableRef) (i : ℕ) (v : Value) → State l (table_set t i v h).1
  unfolding table_set table_set_in store_at
  table_set_keeps t i v =
      marked_state Err (in_words (table_set_in t i v)) l h s
      (named_both l ok a (state_parted s) S 1 (omega arith) t.0 t.1 (store_at l t i v) w s
      (λ p g. le_both T _ _ _ _ (λ e. s)
      (λ e. cond_both T (is_sound l v w) _ _ (λ z. back_state l ok a r am t (plain_state l ok a r (past_value l ok a (array_place p i) v (omega (arith, g)) plainly_none) s)) (λ z. s))))

  pub table_set_node_keeps : (t : TableRef) (j : ℕ) (k v : Value) → State l (table_set_node t j k v h).1
  unfolding table_set_node table_set_node_in store_node put_node
  table_set_node_keeps t j k v =
      marked_state Err (in_words (table_set_node_in t j k v)) l h s
      (cond_both T (is_node k v) _ _
      (λ z. named_both l ok a (state_parted s) S 1 (omega arith) t.0 t.1 (store_node l t j k v) w s
      (λ p g. le_both T _ _ _ _ (λ e. s)
      (λ e. cond_both T (is_taken p j k w) _ _ (λ z. s)
      (λ z. cond_both T (is_sound l k w) _ _
      (λ z. cond_both T (is_sound l v w) _ _
      (λ z. back_state l ok a r am t
      (plain_state l ok a r (past_value l ok a (node_place p j w + 3) v (omega (arith, g)) (past_value l ok a (node_place p j w) k (omega (arith, g)) plainly_none)) s))
      (λ z. s))
      (λ z. s)))))
      (λ z. s))

  pub table_set_meta_keeps : (t : TableRef) (m : Option TableRef) → State l (table_set_meta t m h).1
  unfolding table_set_meta table_set_meta_in store_meta
  table_set_meta_keeps t m =
      marked_state Err (in_words (table_set_meta_in t m)) l h s
      (named_both l ok a (state_parted s) S 1 (omega arith) t.0 t.1 (store_meta l t m) w s
      (λ p g. cond_both T (is_table_or l m w) _ _ (λ z. back_state l ok a r am t (plain_state l ok a r (past_handle l ok a p _ g plainly_none) s)) (λ z. s)))

  -- An upvalue: the forward barrier.
  closed_keeps : (u : UpvalRef) (v : Value) (p : ℕ) → l.stack.base ≤ p → T (store_closed l u v p w)
  unfolding store_closed
  closed_keeps u v p g =
      cond_both T (is_sound l v w) _ _
      (λ z. forward_state l ok a r am _ v (plain_state l ok a r (past_value l ok a (p + 1) v (omega (arith, g)) (past_put l ok a p _ g plainly_none)) s))
      (λ z. s)

  pub upvalue_close_keeps : (u : UpvalRef) (v : Value) → State l (upvalue_close u v h).1
  unfolding upvalue_close upvalue_close_in close_at
  upvalue_close_keeps u v =
      marked_state Err (in_words (upvalue_close_in u v)) l h s
      (named_both l ok a (state_parted s) S 3 (omega arith) u.0 u.1 (close_at l u v) w s (λ p g. cond_both T (is_closed p w) _ _ (λ z. s) (λ z. closed_keeps u v p g)))

  pub upvalue_set_keeps : (u : UpvalRef) (v : Value) → State l (upvalue_set u v h).1
  unfolding upvalue_set upvalue_set_in set_at
  upvalue_set_keeps u v =
      marked_state Err (in_words (upvalue_set_in u v)) l h s
      (named_both l ok a (state_parted s) S 3 (omega arith) u.0 u.1 (set_at l u v) w s (λ p g. cond_both T (is_closed p w) _ _ (λ z. closed_keeps u v p g) (λ z. s)))

  -- A userdata, and a type: the forward barrier of a table that is given.
  forward_table_lem : (parent : ℕ) (t : Option TableRef) (u : List ℕ) → S u → S (forward_table l parent t u)
  unfolding forward_table
  forward_table_lem parent (Some x) u k = forward_state l ok a r am parent _ k
  forward_table_lem parent None u k = k

  forward_from_lem : (d : UdRef) (t : Option TableRef) (u : List ℕ) → S u → S (forward_from l d t u)
  unfolding forward_from
  forward_from_lem d t u k = forward_table_lem _ t u k

  pub ud_set_meta_keeps : (d : UdRef) (t : Option TableRef) → State l (ud_set_meta d t h).1
  unfolding ud_set_meta ud_set_meta_in meta_at
  ud_set_meta_keeps d t =
      marked_state Err (in_words (ud_set_meta_in d t)) l h s
      (named_both l ok a (state_parted s) S 4 (omega arith) d.0 d.1 (meta_at l d t) w s
      (λ p g. cond_both T (is_table_or l t w) _ _ (λ z. forward_from_lem d t _ (plain_state l ok a r (past_handle l ok a p _ g plainly_none) s)) (λ z. s)))

  pub ud_set_env_keeps : (d : UdRef) (t : Option TableRef) → State l (ud_set_env d t h).1
  unfolding ud_set_env ud_set_env_in env_at
  ud_set_env_keeps d t =
      marked_state Err (in_words (ud_set_env_in d t)) l h s
      (named_both l ok a (state_parted s) S 4 (omega arith) d.0 d.1 (env_at l d t) w s
      (λ p g. cond_both T (is_table_or l t w) _ _ (λ z. forward_from_lem d t _ (plain_state l ok a r (past_handle l ok a (p + 2) _ (omega (arith, g)) plainly_none) s)) (λ z. s)))

  pub set_type_meta_keeps : (k : ℕ) (t : Option TableRef) → State l (set_type_meta k t h).1
  unfolding set_type_meta set_type_meta_in
  set_type_meta_keeps k t =
      marked_state Err (in_words (set_type_meta_in k t)) l h s
      (lt_both T _ _ _ _ (λ e. s)
      (λ e. cond_both T (is_table_or l t w) _ _
      (λ z. forward_table_lem 4 t _
      (plain_state l ok a r (plainly_handle l ok a (METATABLES + 2 * k) _ (fields (omega arith) (omega (arith, e))) (fields (omega arith) (omega (arith, e))) plainly_none) s))
      (λ z. s)))
