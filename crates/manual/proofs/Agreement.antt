-- The heap at any words and bytes agrees with the manual, and differs from it, as `Agreement` says. Assumes nothing.
use Rattle.std.specs.Prelude.{◌≡◌, Bool, ◌⊎◌, ℕ, min, ◌+◌, ◌*◌, ◌<◌}
use Rattle.std.proofs.Math.Path.{refl, ap}
use Rattle.std.proofs.Common.{sym, subst, ◌∙◌, true≢false, inl, inr, arith}
use Rattle.std.proofs.Math.Bool.{true, false, cond}
use mathlib.Core.List.Memᴰ
use mathlib.Core.List.{List, [], ◌++◌, Memᴰ}
use Rattle.std.proofs.Math.Logic.{⊎_elim}
use Rattle.base.specs.Words.{at, bounded}
use Rattle.value.specs.declared.Value.{Value}
use Rattle.value.specs.declared.Value.TheVariants.{Nil, Boolean, Light, Number, Str, Table, Function, Userdata, Thread}
use Rattle.value.specs.Values.{is_nil}
use Rattle.layout.specs.declared.Lay.{Lay}
use Rattle.record.specs.Tables.{table_meta, array_size, node_count, array_value, node_key, node_value}
use Rattle.run_record.specs.Upvalues.{is_closed}
use Rattle.run_record.specs.Threads.{thread_top, thread_size}
use Rattle.mark.specs.Ops.{Ref, ref, upval}
use Rattle.modes.specs.declared.Mode.{Mode}
use Rattle.modes.specs.Modes.{weak_mode, is_weak}
use Rattle.links.specs.Links.{value_links, table_link, each, node_links}
use Rattle.link_laws.specs.Agrees.{Agree, value_same, table_same, upval_same, bounded_most}
use Rattle.atomic_laws.specs.Kept.{Kept, string_in, node_strings, table_strings}
use Rattle.atomic_laws.proofs.Spares.{each_out, each_in}
use Rattle.manual.specs.Manual.{WeakTable, Strong, Strong-other, Strong-key, Strong-value, From-start}
use Rattle.manual.specs.Instance.{Object, Rooted-frame, Refers, Refers-table_meta, Refers-closure_env, Refers-closure_value, Refers-closure_upvalue, Refers-closure_constant, Refers-upvalue_closed, Refers-userdata_meta, Refers-userdata_env, Refers-thread_global, Refers-thread_hook, Refers-thread_stack, Refers-thread_open, Refers-thread_suspended, EntryOf, EntryOf-array, EntryOf-node, key_links, values_links, in_tables, in_upvalues, in_threads, heap}
use Rattle.manual.proofs.Agrees.{table_of, weak_keys, weak_values, accessible_exact, finalize_exact, retained_exact}
use Rattle.manual.specs.Agreement.{Agreement}

-- the strings among what a value refers to
string_in_lem : (v : Value) (q : Ref) → q.kind ≡ 0 → Memᴰ q (value_links v) → Memᴰ q (string_in v)
string_in_lem Nil q k m = m
string_in_lem (Boolean x) q k m = m
string_in_lem (Light x) q k m = m
string_in_lem (Number x) q k m = m
string_in_lem (Str r) q k m = m
string_in_lem (Table r) q k m = absurd (let e = ap (λ (x : Ref). x.kind) (Memᴰ.eq_of_singleton m) in omega (arith, e, k))
string_in_lem (Function r) q k m = absurd (let e = ap (λ (x : Ref). x.kind) (Memᴰ.eq_of_singleton m) in omega (arith, e, k))
string_in_lem (Userdata r) q k m = absurd (let e = ap (λ (x : Ref). x.kind) (Memᴰ.eq_of_singleton m) in omega (arith, e, k))
string_in_lem (Thread r) q k m = absurd (let e = ap (λ (x : Ref). x.kind) (Memᴰ.eq_of_singleton m) in omega (arith, e, k))

string_is : (v : Value) (q : Ref) → Memᴰ q (string_in v) → q.kind ≡ 0
string_is (Str r) q m = ap (λ (x : Ref). x.kind) (Memᴰ.eq_of_singleton m)
string_is Nil q m = absurd (Memᴰ.not-nil m)
string_is (Boolean x) q m = absurd (Memᴰ.not-nil m)
string_is (Light x) q m = absurd (Memᴰ.not-nil m)
string_is (Number x) q m = absurd (Memᴰ.not-nil m)
string_is (Table r) q m = absurd (Memᴰ.not-nil m)
string_is (Function r) q m = absurd (Memᴰ.not-nil m)
string_is (Userdata r) q m = absurd (Memᴰ.not-nil m)
string_is (Thread r) q m = absurd (Memᴰ.not-nil m)

module _ (p : ℕ) (w : List ℕ) (q : Ref) where
  -- all that a table's strings list are strings
  node_is : (j : ℕ) → Memᴰ q (node_strings p w j) → q.kind ≡ 0
  node_is j m = go (is_nil (node_key p j w)) m
    where
      go : (c : Bool) → Memᴰ q (cond c [] (string_in (node_key p j w) ++ string_in (node_value p j w))) → q.kind ≡ 0
      go true m = absurd (Memᴰ.not-nil m)
      go false m = ⊎_elim (string_is (node_key p j w) q) (string_is (node_value p j w) q) (Memᴰ.append_cases (string_in (node_key p j w)) m)

  table_strings_lem : Memᴰ q (table_strings p w) → q.kind ≡ 0
  unfolding table_strings
  table_strings_lem m =
      ⊎_elim (λ i. let c = each_out (λ i. string_in (array_value p i w)) (array_size p w) 0 q i in string_is (array_value p c.0 w) q c.3)
      (λ i. let c = each_out (node_strings p w) (node_count p w) 0 q i in node_is c.0 c.3)
      (Memᴰ.append_cases (each (λ i. string_in (array_value p i w)) (array_size p w) 0) m)

  -- a string in the array, and one in a node
  array_string : (i : ℕ) → i < array_size p w → Memᴰ q (string_in (array_value p i w)) → Memᴰ q (table_strings p w)
  unfolding table_strings
  array_string i f m = Memᴰ.append_left (each (node_strings p w) (node_count p w) 0) (each_in (λ i. string_in (array_value p i w)) (array_size p w) 0 i q (omega arith) (omega (arith, f)) m)

  node_string : (j : ℕ) → j < node_count p w → is_nil (node_key p j w) ≡ false → Memᴰ q (string_in (node_key p j w) ++ string_in (node_value p j w)) → Memᴰ q (table_strings p w)
  unfolding table_strings
  node_string j f e m =
      Memᴰ.append_right (each (λ i. string_in (array_value p i w)) (array_size p w) 0)
      (each_in (node_strings p w) (node_count p w) 0 j q (omega arith) (omega (arith, f)) (subst (λ c. Memᴰ q (cond c [] (string_in (node_key p j w) ++ string_in (node_value p j w)))) (sym e) m))

module _ (l : Lay) (w b : List ℕ) where
  nil_node_none : (m : Mode) (p j : ℕ) → is_nil (node_value p j w) ≡ true → node_links w m p j ≡ []
  unfolding node_links
  nil_node_none m p j e = either (is_nil (node_key p j w)) ∙ refl
    where
      either : (c : Bool) → cond c [] (cond (is_nil (node_value p j w)) [] (cond m.keys [] (value_links (node_key p j w)) ++ cond m.values [] (value_links (node_value p j w)))) ≡ []
      either true = refl
      either false = ap (λ (x : Bool). cond x [] (cond m.keys [] (value_links (node_key p j w)) ++ cond m.values [] (value_links (node_value p j w)))) e

  open_refers : (r q : Ref) → r.kind ≡ 3 → is_closed (in_upvalues l w b r) w ≡ false → Refers l w b r q → ⊥
  open_refers r q k z (Refers-table_meta e i) = omega (arith, k, e)
  open_refers r q k z (Refers-closure_env e i) = omega (arith, k, e)
  open_refers r q k z (Refers-closure_value e f i h m) = omega (arith, k, e)
  open_refers r q k z (Refers-closure_upvalue e f i h m) = omega (arith, k, e)
  open_refers r q k z (Refers-closure_constant e f m) = omega (arith, k, e)
  open_refers r q k z (Refers-upvalue_closed e f m) = true≢false (sym f ∙ z)
  open_refers r q k z (Refers-userdata_meta e m) = omega (arith, k, e)
  open_refers r q k z (Refers-userdata_env e m) = omega (arith, k, e)
  open_refers r q k z (Refers-thread_global e m) = omega (arith, k, e)
  open_refers r q k z (Refers-thread_hook e m) = omega (arith, k, e)
  open_refers r q k z (Refers-thread_stack e i h m) = omega (arith, k, e)
  open_refers r q k z (Refers-thread_open e i h m) = omega (arith, k, e)
  open_refers r q k z (Refers-thread_suspended e i h m) = omega (arith, k, e)

  open_strong : (x y : Object l w b) → x.0.kind ≡ 3 → is_closed (in_upvalues l w b x.0) w ≡ false → Strong (heap l w b) x y → ⊥
  open_strong x y k z (Strong-other i) = open_refers x.0 y.0 k z i
  open_strong x y k z (Strong-key e i n) = let f = table_of l w b x.0 e in omega (arith, k, f)
  open_strong x y k z (Strong-value e i n) = let f = table_of l w b x.0 e in omega (arith, k, f)

  -- a thread's references, read around its error value
  module _ (u : List ℕ) (r q : Ref) (k : r.kind ≡ 5) where
    abbrev p : ℕ
    p = in_threads l w b r

    module _ (s : Agree w u p 5) (t : Agree w u (p + 8) 260) where
      top_same : thread_top p u ≡ thread_top p w
      top_same = ap (λ (x : ℕ). min x (thread_size p u)) (t.word (p + 9) (omega arith) (omega arith)) ∙ ap (λ (x : ℕ). min (at w (p + 9)) (bounded x 64)) (t.word (p + 8) (omega arith) (omega arith))

      around : Refers l w b r q → Refers l u b r q
      around (Refers-table_meta e i) = absurd (let z : ⊥ = omega (arith, k, e) in z)
      around (Refers-closure_env e i) = absurd (let z : ⊥ = omega (arith, k, e) in z)
      around (Refers-closure_value e f i h m) = absurd (let z : ⊥ = omega (arith, k, e) in z)
      around (Refers-closure_upvalue e f i h m) = absurd (let z : ⊥ = omega (arith, k, e) in z)
      around (Refers-closure_constant e f m) = absurd (let z : ⊥ = omega (arith, k, e) in z)
      around (Refers-upvalue_closed e f m) = absurd (let z : ⊥ = omega (arith, k, e) in z)
      around (Refers-userdata_meta e m) = absurd (let z : ⊥ = omega (arith, k, e) in z)
      around (Refers-userdata_env e m) = absurd (let z : ⊥ = omega (arith, k, e) in z)
      around (Refers-thread_global e m) = Refers-thread_global e (subst (λ x. Memᴰ q (table_link x)) (sym (table_same s p (omega arith) (omega arith))) m)
      around (Refers-thread_hook e m) = Refers-thread_hook e (subst (λ x. Memᴰ q (value_links x)) (sym (value_same s (p + 2) (omega arith) (omega arith))) m)
      around (Refers-thread_stack e i h m) =
          Refers-thread_stack e i (subst (λ n. i < n) (sym top_same) h)
          (subst (λ x. Memᴰ q (value_links x)) (sym (value_same t (p + 76 + 3 * i) (omega arith) (omega (arith, h, bounded_most (at w (p + 8)) 64)))) m)
      around (Refers-thread_open e i h m) =
          Refers-thread_open e i (subst (λ n. i < n) (sym (ap (λ (x : ℕ). bounded x 16) (t.word (p + 10) (omega arith) (omega arith)))) h)
          (m ∙ ap upval (sym (upval_same t (p + 12 + 2 * i) (omega arith) (omega (arith, h, bounded_most (at w (p + 10)) 16)))))
      around (Refers-thread_suspended e i h m) =
          Refers-thread_suspended e i (subst (λ n. i < n) (sym (ap (λ (x : ℕ). bounded x 16) (t.word (p + 11) (omega arith) (omega arith)))) h)
          (m ∙ ap upval (sym (upval_same t (p + 44 + 2 * i) (omega arith) (omega (arith, h, bounded_most (at w (p + 11)) 16)))))

  -- a string in an entry
  entry_string : (r : Ref) (e : EntryOf l w b r) (q : Ref) → q.kind ≡ 0 → Memᴰ q (key_links l w b r e) ⊎ Memᴰ q (values_links l w b r e) → Memᴰ q (table_strings (in_tables l w b r) w)
  entry_string r (EntryOf-array k i f n) q z (inl m) = absurd (Memᴰ.not-nil m)
  entry_string r (EntryOf-array k i f n) q z (inr m) = array_string (in_tables l w b r) w q i f (string_in_lem (array_value (in_tables l w b r) i w) q z m)
  entry_string r (EntryOf-node k j f c d) q z (inl m) = node_string (in_tables l w b r) w q j f c (Memᴰ.append_left (string_in (node_value (in_tables l w b r) j w)) (string_in_lem (node_key (in_tables l w b r) j w) q z m))
  entry_string r (EntryOf-node k j f c d) q z (inr m) = node_string (in_tables l w b r) w q j f c (Memᴰ.append_right (string_in (node_key (in_tables l w b r) j w)) (string_in_lem (node_value (in_tables l w b r) j w) q z m))

  weak_is : (x : Object l w b) → x.0.kind ≡ 1 → WeakTable (heap l w b) x → is_weak (weak_mode l (table_meta (in_tables l w b x.0) w) w b) ≡ true
  weak_is x k (inl z) = ap (λ (c : Bool). cond c true (weak_mode l (table_meta (in_tables l w b x.0) w) w b).values) ((weak_keys l w b x k).0 z)
  weak_is x k (inr z) = go (weak_mode l (table_meta (in_tables l w b x.0) w) w b).keys ((weak_values l w b x k).0 z)
    where
      go : (c : Bool) → (weak_mode l (table_meta (in_tables l w b x.0) w) w b).values ≡ true → cond c true (weak_mode l (table_meta (in_tables l w b x.0) w) w b).values ≡ true
      go true e = refl
      go false e = e

  -- All of it holds of all words and bytes.
  pub agreement : Agreement l w b
  agreement = record {
    accessible = accessible_exact l w b;
    to_finalize = finalize_exact l w b;
    retained = retained_exact l w b;
    nil_node = nil_node_none;
    open_upvalue = open_strong;
    error_value = λ u r q k s t i. around u r q k s t i;
    frame_function_lem = λ x i f g m. From-start (Rooted-frame i f g m);
    string_spared = λ x y e h z k m. let c = table_of l w b x.0 e in record {
      table = record { 0 = x.0.at; 1 = x.0.gen };
      kept = subst (λ (n : ℕ). Kept l w b (ref n x.0.at x.0.gen)) c ((retained_exact l w b x).0 h);
      weak = weak_is x c z;
      inside = entry_string x.0 e y.0 k m;
      occupied = y.1;
    };
    only_strings = λ r s. table_strings_lem (in_tables l w b (ref 1 s.table.0 s.table.1)) w r s.inside;
  }
