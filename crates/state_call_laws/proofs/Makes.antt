-- The calls that make an object or a prototype keep the state. Assumes nothing.
use Rattle.std.specs.Prelude.{◌≡◌, Bool, Some, None, Ok, Err, Option, Result}
use Rattle.std.proofs.Common.{◌∙◌, arith}
use Rattle.std.proofs.Math.Bool.{true, false}
use mathlib.Core.List.{List}
use Prim.Native.Nat.{ℕ, zero, suc, ◌+◌, ◌*◌, ◌/◌, ◌≤◌}
use Rattle.std.proofs.Math.ListN.{length, length-set}
use Rattle.base.specs.Loop.{run_keeps}
use Rattle.base.specs.Words.{at, clear}
use Rattle.base.specs.Heap.{Heap, heap}
use Rattle.base.specs.declared.Refusal.{Refusal}
use Rattle.arena.specs.Slots.{used}
use Rattle.arena_laws.specs.Words.{clear_length}
use Rattle.value.specs.declared.TableRef.{TableRef}
use Rattle.value.specs.declared.Value.{Value}
use Rattle.layout.specs.declared.Lay.{Lay}
use Rattle.layout.specs.Places.{CREATION, STRING_WORDS, UPVALUE_WORDS, USERDATA_WORDS}
use Rattle.test1.specs.Calls.{in_words}
use Rattle.laid.specs.Laid.{Laid}
use Rattle.record.specs.Strings.{text_one, text_put}
use Rattle.record.specs.Tables.{table_extent}
use Rattle.run_record.specs.Threads.{thread_extent}
use Rattle.given.specs.Given.{is_table, is_sound}
use Rattle.sound.specs.Sound.{are_sound}
use Rattle.making.specs.declared.Made.{Made}
use Rattle.making.specs.Making.{new_object, put_one, put_values}
use Rattle.making.specs.Turns.{turns}
use Rattle.make_strings.specs.Making.{holds, find_turn, find_string, Below, found_string, put_text, string_new, new_string, on_found, string_in, make_string}
use Rattle.make_tables.specs.Making.{is_nodes, table_at, new_table, table_in, make_table, userdata_at, userdata_in, make_userdata}
use Rattle.make_threads.specs.Making.{upvalue_at, new_upvalue, make_open_upvalue, closed_in, make_closed_upvalue, thread_at, new_thread, thread_in, make_thread}
use Rattle.make_protos.specs.Making.{lengths_fit, lengths_most, are_nestable, proto_in, make_proto}
use Rattle.closures.specs.Closures.{new_closure, put_upvalue, put_upvalues, lua_at, new_lua, rust_at, new_rust}
use Rattle.make_closures.specs.Making.{upvalues_fit, values_fit, lua_sound, lua_in, make_lua_closure, rust_sound, rust_in, make_rust_closure}
use Rattle.value.specs.declared.Value.TheVariants.{Nil}
use Rattle.value.specs.Values.{value_at}
use Rattle.mark_laws.specs.Apart.{Apart, Order, order}
use Rattle.room_laws.specs.Tallies.{Ample}
use Rattle.sweep_laws.specs.Places.{Rows}
use Rattle.state_laws.specs.State.{State, call_state}
use Rattle.state_laws.specs.Plains.{lt_both, le_both, cond_both, fields, Plainly, plainly_none, plainly_two, past_put, past_two, past_handle, past_value, plain_state, plain_text}
use Rattle.state_laws.specs.Takes.{Begun}
use Rattle.state_laws.proofs.Begins.{new_state, on_new_lem}
use Rattle.state_laws.specs.Barriers.{found_state}
use Rattle.state_call_laws.proofs.Protos.{proto_state}
use Rattle.state_call_laws.proofs.Closures.{new_closure_lem}

module _ (l : Lay) (ok : Laid l) (a : Apart l) (r : Rows l) (am : Ample l) where
  abbrev o : Order l
  o = order l ok a

  -- n values, and n handles of upvalues, from a place past the prototypes on.
  pub values_plain : {w u : List ℕ} (p : ℕ) (s : List ℕ) (n : ℕ) → l.stack.base ≤ p → Plainly l w u → Plainly l w (put_values p s n u)
  unfolding put_values put_one
  values_plain {w} {u} p s n g t = run_keeps (put_one p s) (λ (x : List ℕ). Plainly l w x) 0 n u (omega arith) (λ j x h k. past_value l ok a (p + 3 * j) (value_at s (3 * j)) (omega (arith, g)) k) t

  upvalues_plain : {w u : List ℕ} (p : ℕ) (s : List ℕ) (n : ℕ) → l.stack.base ≤ p → Plainly l w u → Plainly l w (put_upvalues p s n u)
  unfolding put_upvalues put_upvalue
  upvalues_plain {w} {u} p s n g t = run_keeps (put_upvalue p s) (λ (x : List ℕ). Plainly l w x) 0 n u (omega arith) (λ j x h k. past_two l ok a (p + 2 * j) _ _ (omega (arith, g)) k) t

  -- The bytes of a string stay as many.
  text_length : (i : ℕ) (s b : List ℕ) → length (put_text i s b) ≡ length b
  unfolding put_text text_put
  text_length i s b =
      run_keeps (text_one i s) (λ (x : List ℕ). length x ≡ length b) 0 (length s) (clear (64 * i) 64 b) (omega arith) (λ j x h e. length-set x (64 * i + j) (at s j) ∙ e)
      (clear_length (64 * i) 64 b)

  -- What is found lies below the slots in use.
  found_below : (s : List ℕ) (h : Heap) (n k m : ℕ) → k + n ≤ m → Below (turns (find_turn l s h) None n k) m
  unfolding turns
  found_below s h zero k m e = tt
  found_below s h (suc n) k m e = cond_both (λ (x : Option ℕ). Below x m) (holds l s h k) (Some k) (turns (find_turn l s h) None n (k + 1)) (λ z. omega (arith, e)) (λ z. found_below s h n (k + 1) m (omega (arith, e)))

  module _ (h : Heap) (s : State l h) where
    abbrev w : List ℕ
    w = h.words

    abbrev T : Result Made Refusal × List ℕ → Type 0
    T x = State l (heap x.1 h.bytes)

    -- A string.
    string_new_lem : (t : List ℕ) (x : Result (ℕ × ℕ × ℕ) Refusal × List ℕ) → Begun l ok a r h.bytes x → State l (string_new t h.bytes x).1
    string_new_lem t (Ok (i, g, p), u) k = plain_text l ok a r (past_put l ok a p (length t) k.1 plainly_none) (text_length i t h.bytes) k.0
    string_new_lem t (Err n, u) k = k

    found_string_lem : (t : List ℕ) (x : Option ℕ) → Below x (used l.strings h.words) → State l (on_found t l h x).1
    unfolding found_string new_string
    found_string_lem t (Some i) k = found_state l ok a r am i k s
    found_string_lem t None k = string_new_lem t (new_object l.strings 48 STRING_WORDS h.words) (new_state l ok a r 0 (omega arith) STRING_WORDS s)

    pub make_string_keeps : (t : List ℕ) → State l (make_string t h).1
    unfolding make_string string_in
    make_string_keeps t =
        call_state Err (string_in t) l h s
        (lt_both (λ (x : Result Made Refusal × Heap). State l x.1) _ _ _ _ (λ e. s)
        (λ e. found_string_lem t (find_string l t h) (found_below t h (used l.strings h.words) 0 (used l.strings h.words) (omega arith))))

    -- A table, a userdata.
    pub make_table_keeps : (array nodes : ℕ) → State l (make_table array nodes h).1
    unfolding make_table table_in new_table
    make_table_keeps array nodes =
        call_state Err (in_words (table_in array nodes)) l h s
        (lt_both T _ _ _ _ (λ e. s)
        (λ e. cond_both T (is_nodes nodes) _ _
        (λ z. on_new_lem l ok a r (table_at array nodes) h.bytes (new_object l.tables 64 (table_extent array nodes) w) (new_state l ok a r 1 (omega arith) (table_extent array nodes) s)
        (λ i g p u f k. plain_state l ok a r (past_put l ok a (p + 3) _ (omega (arith, f)) (past_put l ok a (p + 2) _ (omega (arith, f)) plainly_none)) k))
        (λ z. s)))

    pub make_userdata_keeps : State l (make_userdata h).1
    unfolding make_userdata userdata_in
    make_userdata_keeps =
        call_state Err (in_words userdata_in) l h s
        (on_new_lem l ok a r userdata_at h.bytes (new_object l.userdata 48 USERDATA_WORDS w) (new_state l ok a r 4 (omega arith) USERDATA_WORDS s)
        (λ i g p u f k.
        plain_state l ok a r
        (plainly_two l ok a CREATION _ _ (fields (omega arith) (omega arith)) (fields (omega arith) (omega arith)) (past_two l ok a (p + 4) _ _ (omega (arith, f)) plainly_none))
        k))

    -- An upvalue, a thread.
    new_upvalue_lem : (closed : Bool) (v : Value) → T (new_upvalue closed v l w)
    unfolding new_upvalue
    new_upvalue_lem closed v =
        on_new_lem l ok a r (upvalue_at closed v) h.bytes (new_object l.upvalues 24 UPVALUE_WORDS w) (new_state l ok a r 3 (omega arith) UPVALUE_WORDS s)
        (λ i g p u f k. plain_state l ok a r (past_value l ok a (p + 1) v (omega (arith, f)) (past_put l ok a p _ f plainly_none)) k)

    pub make_open_upvalue_keeps : State l (make_open_upvalue h).1
    unfolding make_open_upvalue
    make_open_upvalue_keeps = call_state Err (in_words (new_upvalue false Nil)) l h s (new_upvalue_lem false Nil)

    pub make_closed_upvalue_keeps : (v : Value) → State l (make_closed_upvalue v h).1
    unfolding make_closed_upvalue closed_in
    make_closed_upvalue_keeps v = call_state Err (in_words (closed_in v)) l h s (cond_both T (is_sound l v w) _ _ (λ z. new_upvalue_lem true v) (λ z. s))

    pub make_thread_keeps : (global : TableRef) (stack : ℕ) → State l (make_thread global stack h).1
    unfolding make_thread thread_in new_thread
    make_thread_keeps global stack =
        call_state Err (in_words (thread_in global stack)) l h s
        (lt_both T _ _ _ _ (λ e. s)
        (λ e. cond_both T (is_table l global w) _ _
        (λ z. on_new_lem l ok a r (thread_at global stack) h.bytes (new_object l.threads 256 (thread_extent stack) w) (new_state l ok a r 5 (omega arith) (thread_extent stack) s)
        (λ i g p u f k. plain_state l ok a r (past_put l ok a (p + 8) _ (omega (arith, f)) (past_handle l ok a p _ f plainly_none)) k))
        (λ z. s)))

    -- A prototype.
    pub make_proto_keeps : (constants nested : List ℕ) → State l (make_proto constants nested h).1
    unfolding make_proto proto_in
    make_proto_keeps constants nested =
        call_state Err (in_words (proto_in constants nested)) l h s
        (cond_both T (lengths_fit (length constants) (length nested)) _ _
        (λ f. cond_both T (are_nestable l w nested) _ _
        (λ g. cond_both T (are_sound l constants 0 (length constants / 3) w) _ _
        (λ z. le_both T _ _ _ _ (λ e. s) (λ e. proto_state l ok a r constants nested s e (lengths_most (length constants) (length nested) f) g))
        (λ z. s))
        (λ z. s))
        (λ z. s))

    pub make_lua_closure_keeps : (proto : ℕ) (env : TableRef) (t : List ℕ) → State l (make_lua_closure proto env t h).1
    unfolding make_lua_closure lua_in new_lua
    make_lua_closure_keeps proto env t =
        call_state Err (in_words (lua_in proto env t)) l h s
        (le_both T _ _ _ _ (λ e. s)
        (λ e. cond_both T (upvalues_fit (length t)) _ _
        (λ z. cond_both T (lua_sound proto env t l w) _ _
        (λ z. on_new_lem l ok a r (lua_at t) h.bytes (new_closure false _ proto (length t / 2) l w) (new_closure_lem l ok a r am h s false _ proto (length t / 2))
        (λ i g p u f k. plain_state l ok a r (upvalues_plain (p + 5) t (length t / 2) (omega (arith, f)) plainly_none) k))
        (λ z. s))
        (λ z. s)))

    pub make_rust_closure_keeps : (env : Option TableRef) (t : List ℕ) → State l (make_rust_closure env t h).1
    unfolding make_rust_closure rust_in new_rust
    make_rust_closure_keeps env t =
        call_state Err (in_words (rust_in env t)) l h s
        (cond_both T (values_fit (length t)) _ _
        (λ z. cond_both T (rust_sound env t l w) _ _
        (λ z. on_new_lem l ok a r (rust_at t) h.bytes (new_closure true env 0 (length t / 3) l w) (new_closure_lem l ok a r am h s true env 0 (length t / 3))
        (λ i g p u f k. plain_state l ok a r (values_plain (p + 5) t (length t / 3) (omega (arith, f)) plainly_none) k))
        (λ z. s))
        (λ z. s))
