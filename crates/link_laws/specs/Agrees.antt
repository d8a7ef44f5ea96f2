-- Words that agree on a part, and what is read there: values, handles, and the links of a record. Assumes nothing.
--     Agree, agree-part                u is as w on n words
--     value_same, table_same, str_same, upval_same     what is read there is the same
--     each_same                        lists joined, each the same
--     upvalue_same, userdata_same, thread_same, entries_same     the links of a record that lies there
--     proto-same, closure_same         a closure's, with the prototypes' part
use Rattle.std.specs.Prelude.{◌≡◌, true, false, eqb, Option}
use Rattle.std.proofs.Math.Path.{refl, sym, ap}
use Rattle.std.proofs.Common.{◌∙◌}
use Rattle.std.proofs.Math.Bool.{Bool, cond}
use mathlib.Core.List.{List, [], ◌∷◌, ◌++◌}
use Prim.Native.Nat.{ℕ, zero, suc, min, ◌+◌, ◌*◌, ◌≤◌, ◌<◌}
use Rattle.std.proofs.Math.Decide.{dec_lt}
use native.Mathlib.Omega.{arith}
use Rattle.base.specs.Ways.{if_lt, if_eq, lt_yes, lt_no, le_yes, le_no}
use Rattle.base.specs.Words.{at, bounded}
use Rattle.value.specs.declared.TableRef.{TableRef}
use Rattle.value.specs.declared.UpvalRef.{UpvalRef}
use Rattle.value.specs.declared.Value.{Value}
use Rattle.value.specs.Values.{is_nil, value_at}
use Rattle.value.specs.Handles.{handle_at, table_or_at, str_or_at}
use Rattle.value.specs.Laws.{value_three}
use Rattle.layout.specs.declared.Lay.{Lay}
use Rattle.layout.specs.Places.{PROTOTYPES}
use Rattle.record.specs.Fields.{upval_at}
use Rattle.record.specs.Tables.{array_size, node_number, node_count, array_value, node_place, node_key, node_value}
use Rattle.record.specs.Userdata.{ud_meta, ud_env}
use Rattle.run_record.specs.Closures.{is_rust, closure_env, closure_proto, closure_count, closure_upvalue, closure_value}
use Rattle.run_record.specs.Upvalues.{is_closed, upvalue_value}
use Rattle.run_record.specs.Threads.{thread_global, thread_hook, thread_size, thread_top, thread_open_count, thread_suspended_count, thread_open, thread_suspended, thread_value}
use Rattle.main_record.specs.Prototypes.{protos_used, proto_at, proto_constants, proto_nested, proto_constant, proto_child}
use Rattle.mark.specs.Ops.{Ref, upval}
use Rattle.modes.specs.declared.Mode.{Mode}
use Rattle.links.specs.Links.{value_links, table_link, each, node_links, entry_links, upvalue_links, userdata_links, stack_links, thread_links, proto_below, proto_links, closure_links}

-- u is as w on the n words from p on.
pub record Agree (w u : List ℕ) (p n : ℕ) : Type 0 where
  pub word : (q : ℕ) → p ≤ q → q < p + n → at u q ≡ at w q

-- Lists joined, each the same.
pub each_same : (g h : ℕ → List Ref) (n i : ℕ) → ((j : ℕ) → i ≤ j → j < i + n → g j ≡ h j) → each g n i ≡ each h n i
unfolding each
each_same g h zero i s = refl
each_same g h (suc n) i s =
    ap (λ (x : List Ref). x ++ each g n (i + 1)) (s i (omega arith) (omega arith))
    ∙ ap (λ (x : List Ref). h i ++ x) (each_same g h n (i + 1) (λ j f k. s j (omega (arith, f)) (omega (arith, k))))

module _ {w u : List ℕ} {p n : ℕ} (s : Agree w u p n) where
  -- A value, a handle that may be missing, an upvalue's handle.
  pub value_same : (q : ℕ) → p ≤ q → q + 3 ≤ p + n → value_at u q ≡ value_at w q
  value_same q f g = value_three q u w (s.word q f (omega (arith, g))) (s.word (q + 1) (omega (arith, f)) (omega (arith, g))) (s.word (q + 2) (omega (arith, f)) (omega (arith, g)))

  handle_same : (q : ℕ) → p ≤ q → q + 2 ≤ p + n → handle_at u q ≡ handle_at w q
  handle_same q f g = rw (s.word q f (omega (arith, g)), s.word (q + 1) (omega (arith, f)) (omega (arith, g)))

  pub table_same : (q : ℕ) → p ≤ q → q + 2 ≤ p + n → table_or_at u q ≡ table_or_at w q
  table_same q f g = rw (handle_same q f g)

  pub str_same : (q : ℕ) → p ≤ q → q + 2 ≤ p + n → str_or_at u q ≡ str_or_at w q
  str_same q f g = rw (handle_same q f g)

  pub upval_same : (q : ℕ) → p ≤ q → q + 2 ≤ p + n → upval_at u q ≡ upval_at w q
  upval_same q f g = rw (s.word q f (omega (arith, g)), s.word (q + 1) (omega (arith, f)) (omega (arith, g)))

  -- k values, and k handles of upvalues, from q on
  values_same : (q k : ℕ) → p ≤ q → q + 3 * k ≤ p + n → each (λ i. value_links (value_at u (q + 3 * i))) k 0 ≡ each (λ i. value_links (value_at w (q + 3 * i))) k 0
  values_same q k f g = each_same (λ i. value_links (value_at u (q + 3 * i))) (λ i. value_links (value_at w (q + 3 * i))) k 0 (λ j x y. ap value_links (value_same (q + 3 * j) (omega (arith, f)) (omega (arith, g, y))))

  upvals_same : (q k : ℕ) → p ≤ q → q + 2 * k ≤ p + n → each (λ i. upval (upval_at u (q + 2 * i)) ∷ []) k 0 ≡ each (λ i. upval (upval_at w (q + 2 * i)) ∷ []) k 0
  upvals_same q k f g =
      each_same (λ i. upval (upval_at u (q + 2 * i)) ∷ []) (λ i. upval (upval_at w (q + 2 * i)) ∷ []) k 0 (λ j x y. ap (λ (r : UpvalRef). upval r ∷ []) (upval_same (q + 2 * j) (omega (arith, f)) (omega (arith, g, y))))

-- a count that is bounded
pub bounded_most : (x m : ℕ) → bounded x m ≤ m
bounded_most x m = go (dec_lt m x)
  where
    same : (y : ℕ) → y ≡ bounded x m → y ≤ m → bounded x m ≤ m
    same y e h = omega (arith, e, h)

    go : Dec (m < x) → bounded x m ≤ m
    go (yes h) = same 0 (le_no x m x 0 0 h refl) (omega arith)
    go (no h) = same x (le_yes x m x 0 x (omega (arith, h)) refl) (omega (arith, h))

-- a number of nodes is at most 64
pub nodes_most : (n : ℕ) → node_number n ≤ 64
unfolding node_number if_eq
nodes_most n = go (eqb n 1) (eqb n 2) (eqb n 4) (eqb n 8) (eqb n 16) (eqb n 32) (eqb n 64)
  where
    go : (a b c d e f g : Bool) → cond a 1 (cond b 2 (cond c 4 (cond d 8 (cond e 16 (cond f 32 (cond g 64 0)))))) ≤ 64
    go true b c d e f g = omega arith
    go false true c d e f g = omega arith
    go false false true d e f g = omega arith
    go false false false true e f g = omega arith
    go false false false false true f g = omega arith
    go false false false false false true g = omega arith
    go false false false false false false true = omega arith
    go false false false false false false false = omega arith

-- The links of a record that lies where the words agree.
module _ {w u : List ℕ} {p : ℕ} where
  -- an upvalue
  pub upvalue_same : Agree w u p 4 → upvalue_links u p ≡ upvalue_links w p
  unfolding upvalue_links
  upvalue_same s =
      ap (λ (x : ℕ). cond (eqb x 1) (value_links (upvalue_value p u)) []) (s.word p (omega arith) (omega arith))
      ∙ ap (λ (v : Value). cond (is_closed p w) (value_links v) []) (value_same s (p + 1) (omega arith) (omega arith))

  -- a userdata, of which only the two handles are read
  pub userdata_same : Agree w u p 4 → userdata_links u p ≡ userdata_links w p
  unfolding userdata_links
  userdata_same s =
      ap (λ (t : Option TableRef). table_link t ++ table_link (ud_env p u)) (table_same s p (omega arith) (omega arith))
      ∙ ap (λ (t : Option TableRef). table_link (ud_meta p w) ++ table_link t) (table_same s (p + 2) (omega arith) (omega arith))

  -- a thread
  pub thread_same : Agree w u p 268 → thread_links u p ≡ thread_links w p
  unfolding thread_links stack_links
  thread_same s =
      ap (λ (t : Option TableRef). whole (table_link t) (value_links (thread_hook p u)) (thread_top p u) (thread_open_count p u) (thread_suspended_count p u) u) (table_same s p (omega arith) (omega arith))
      ∙ ap (λ (v : Value). whole G (value_links v) (thread_top p u) (thread_open_count p u) (thread_suspended_count p u) u) (value_same s (p + 2) (omega arith) (omega arith))
      ∙ ap (λ (x : ℕ). whole G H (min (at u (p + 9)) (bounded x 64)) (thread_open_count p u) (thread_suspended_count p u) u) (s.word (p + 8) (omega arith) (omega arith))
      ∙ ap (λ (x : ℕ). whole G H (min x (thread_size p w)) (thread_open_count p u) (thread_suspended_count p u) u) (s.word (p + 9) (omega arith) (omega arith))
      ∙ ap (λ (x : ℕ). whole G H (thread_top p w) (bounded x 16) (thread_suspended_count p u) u) (s.word (p + 10) (omega arith) (omega arith))
      ∙ ap (λ (x : ℕ). whole G H (thread_top p w) (thread_open_count p w) (bounded x 16) u) (s.word (p + 11) (omega arith) (omega arith))
      ∙ ap (λ (x : List Ref). G ++ H ++ (x ++ opens u (thread_open_count p w) ++ suspended u (thread_suspended_count p w))) (values_same s (p + 76) (thread_top p w) (omega arith) (omega (arith, bounded_most (at w (p + 8)) 64)))
      ∙ ap (λ (x : List Ref). G ++ H ++ (values w (thread_top p w) ++ x ++ suspended u (thread_suspended_count p w))) (upvals_same s (p + 12) (thread_open_count p w) (omega arith) (omega (arith, bounded_most (at w (p + 10)) 16)))
      ∙ ap (λ (x : List Ref). G ++ H ++ (values w (thread_top p w) ++ opens w (thread_open_count p w) ++ x)) (upvals_same s (p + 44) (thread_suspended_count p w) (omega arith) (omega (arith, bounded_most (at w (p + 11)) 16)))
    where
      values : List ℕ → ℕ → List Ref
      values x n = each (λ i. value_links (thread_value p i x)) n 0

      opens : List ℕ → ℕ → List Ref
      opens x n = each (λ i. upval (thread_open p i x) ∷ []) n 0

      suspended : List ℕ → ℕ → List Ref
      suspended x n = each (λ i. upval (thread_suspended p i x) ∷ []) n 0

      whole : List Ref → List Ref → ℕ → ℕ → ℕ → List ℕ → List Ref
      whole g h n j k x =
          g ++ h
          ++ (each (λ i. value_links (thread_value p i x)) n 0 ++ each (λ i. upval (thread_open p i x) ∷ []) j 0 ++ each (λ i. upval (thread_suspended p i x) ∷ []) k 0)

      G : List Ref
      G = table_link (thread_global p w)

      H : List Ref
      H = value_links (thread_hook p w)

  -- a table's entries, for one mode
  pub size_same : Agree w u p 580 → array_size p u ≡ array_size p w
  size_same s = ap (λ (x : ℕ). bounded x 64) (s.word (p + 2) (omega arith) (omega arith))

  pub nodes_same : Agree w u p 580 → node_count p u ≡ node_count p w
  nodes_same s = ap node_number (s.word (p + 3) (omega arith) (omega arith))

  pub key_same : Agree w u p 580 → (j : ℕ) → j < 64 → node_key p j u ≡ node_key p j w
  key_same s j h =
      ap (λ (n : ℕ). value_at u (p + 4 + 3 * n + 6 * j)) (size_same s)
      ∙ value_same s (node_place p j w) (omega arith) (omega (arith, h, bounded_most (at w (p + 2)) 64))

  pub node_value_same : Agree w u p 580 → (j : ℕ) → j < 64 → node_value p j u ≡ node_value p j w
  node_value_same s j h =
      ap (λ (n : ℕ). value_at u (p + 4 + 3 * n + 6 * j + 3)) (size_same s)
      ∙ value_same s (node_place p j w + 3) (omega arith) (omega (arith, h, bounded_most (at w (p + 2)) 64))

  node_same : Agree w u p 580 → (m : Mode) (j : ℕ) → j < 64 → node_links u m p j ≡ node_links w m p j
  unfolding node_links
  node_same s m j h =
      ap (λ (v : Value). node v (node_value p j u)) (key_same s j h)
      ∙ ap (node (node_key p j w)) (node_value_same s j h)
    where
      node : Value → Value → List Ref
      node k v = cond (is_nil k) [] (cond (is_nil v) [] (cond m.keys [] (value_links k) ++ cond m.values [] (value_links v)))

  pub entries_same : Agree w u p 580 → (m : Mode) → entry_links u m p ≡ entry_links w m p
  unfolding entry_links
  entries_same s m =
      ap (λ (n : ℕ). cond m.values [] (each (λ i. value_links (array_value p i u)) n 0) ++ each (node_links u m p) (node_count p u) 0) (size_same s)
      ∙ ap (λ (x : List Ref). cond m.values [] x ++ each (node_links u m p) (node_count p u) 0) (values_same s (p + 4) (array_size p w) (omega arith) (omega (arith, bounded_most (at w (p + 2)) 64)))
      ∙ ap (λ (n : ℕ). A ++ each (node_links u m p) n 0) (nodes_same s)
      ∙ ap (λ (x : List Ref). A ++ x) (each_same (node_links u m p) (node_links w m p) (node_count p w) 0 (λ j f g. node_same s m j (omega (arith, g, nodes_most (at w (p + 3))))))
    where
      A : List Ref
      A = cond m.values [] (each (λ i. value_links (array_value p i w)) (array_size p w) 0)

-- A closure's links lie in its record and in the prototypes.
module _ (l : Lay) {w u : List ℕ} (h : Agree w u 0 52) (s : Agree w u l.protos.base (59 * l.protos.room)) where
  used_same : protos_used l u ≡ protos_used l w
  used_same = ap (λ (x : ℕ). min x l.protos.room) (h.word PROTOTYPES (omega arith) (omega arith))

  -- a count of a prototype that is used
  count_same : (n d m : ℕ) → d < 59 → if_lt n (protos_used l u) (bounded (at u (proto_at l n + d)) m) 0 ≡ if_lt n (protos_used l w) (bounded (at w (proto_at l n + d)) m) 0
  count_same n d m f =
      ap (λ (k : ℕ). if_lt n k (bounded (at u (proto_at l n + d)) m) 0) used_same
      ∙ go (dec_lt n (protos_used l w))
    where
      go : Dec (n < protos_used l w) → if_lt n (protos_used l w) (bounded (at u (proto_at l n + d)) m) 0 ≡ if_lt n (protos_used l w) (bounded (at w (proto_at l n + d)) m) 0
      go (yes g) = ap (λ (x : ℕ). if_lt n (protos_used l w) (bounded x m) 0) (s.word (proto_at l n + d) (omega arith) (omega (arith, f, g)))
      go (no g) =
          let k : protos_used l w ≤ n = omega (arith, g) in
          sym (lt_no n (protos_used l w) _ 0 0 k refl) ∙ lt_no n (protos_used l w) (bounded (at w (proto_at l n + d)) m) 0 0 k refl

  -- what is counted is used
  count_used : (n x m k : ℕ) → k < if_lt n (protos_used l w) (bounded x m) 0 → (n < protos_used l w) × (k < m)
  count_used n x m k f = go (dec_lt n (protos_used l w))
    where
      under : (a b c : ℕ) → k < a → a ≡ b → b ≤ c → k < c
      under a b c f e g = omega (arith, f, e, g)

      go : Dec (n < protos_used l w) → (n < protos_used l w) × (k < m)
      go (yes g) = (g, under (if_lt n (protos_used l w) (bounded x m) 0) (bounded x m) m f (sym (lt_yes n (protos_used l w) (bounded x m) 0 (bounded x m) g refl)) (bounded_most x m))
      go (no g) = absurd (none (if_lt n (protos_used l w) (bounded x m) 0) f (sym (lt_no n (protos_used l w) (bounded x m) 0 0 (omega (arith, g)) refl)))
        where
          none : (a : ℕ) → k < a → a ≡ 0 → ⊥
          none a f e = omega (arith, f, e)

  constants_same : (n : ℕ) → proto_constants l n u ≡ proto_constants l n w
  unfolding proto_constants
  constants_same n = plain ∙ count_same n 0 16 (omega arith) ∙ sym plain_w
    where
      zero_more : (x : ℕ) → x + 0 ≡ x
      zero_more x = omega arith

      plain : if_lt n (protos_used l u) (bounded (at u (proto_at l n)) 16) 0 ≡ if_lt n (protos_used l u) (bounded (at u (proto_at l n + 0)) 16) 0
      plain = ap (λ (q : ℕ). if_lt n (protos_used l u) (bounded (at u q) 16) 0) (sym (zero_more (proto_at l n)))

      plain_w : if_lt n (protos_used l w) (bounded (at w (proto_at l n)) 16) 0 ≡ if_lt n (protos_used l w) (bounded (at w (proto_at l n + 0)) 16) 0
      plain_w = ap (λ (q : ℕ). if_lt n (protos_used l w) (bounded (at w q) 16) 0) (sym (zero_more (proto_at l n)))

  nested_same : (n : ℕ) → proto_nested l n u ≡ proto_nested l n w
  unfolding proto_nested
  nested_same n = count_same n 1 8 (omega arith)

  constant_same : (n i : ℕ) → i < proto_constants l n w → proto_constant l n i u ≡ proto_constant l n i w
  unfolding proto_constants
  constant_same n i f =
      let c = count_used n (at w (proto_at l n)) 16 i f in
      value_same s (proto_at l n + 3 + 3 * i) (omega arith) (omega (arith, c.0, c.1))

  child_same : (n j : ℕ) → j < proto_nested l n w → proto_child l n j u ≡ proto_child l n j w
  unfolding proto_nested
  child_same n j f =
      let c = count_used n (at w (proto_at l n + 1)) 8 j f in
      s.word (proto_at l n + 51 + j) (omega arith) (omega (arith, c.0, c.1))

  below_same : (k n : ℕ) → proto_below u l k n ≡ proto_below w l k n
  unfolding proto_below
  below_same zero n = refl
  below_same (suc k) n =
      ap (λ (c : ℕ). if_eq n k (each (λ i. value_links (proto_constant l n i u)) c 0 ++ nested (proto_nested l n u)) (proto_below u l k n)) (constants_same n)
      ∙ ap (λ (c : ℕ). if_eq n k (constants u ++ nested c) (proto_below u l k n)) (nested_same n)
      ∙ ap (λ (x : List Ref). if_eq n k (x ++ nested (proto_nested l n w)) (proto_below u l k n))
      (each_same (λ i. value_links (proto_constant l n i u)) (λ i. value_links (proto_constant l n i w)) (proto_constants l n w) 0 (λ j f g. ap value_links (constant_same n j (plain j (proto_constants l n w) g))))
      ∙ ap (λ (x : List Ref). if_eq n k (constants w ++ x) (proto_below u l k n))
      (each_same (λ j. if_lt (proto_child l n j u) n (proto_below u l k (proto_child l n j u)) []) (λ j. if_lt (proto_child l n j w) n (proto_below w l k (proto_child l n j w)) []) (proto_nested l n w) 0
      (λ j f g.
      ap (λ (x : ℕ). if_lt x n (proto_below u l k x) []) (child_same n j (plain j (proto_nested l n w) g))
      ∙ ap (λ (x : List Ref). if_lt (proto_child l n j w) n x []) (below_same k (proto_child l n j w))))
      ∙ ap (λ (x : List Ref). if_eq n k (constants w ++ each (λ j. if_lt (proto_child l n j w) n (proto_below w l k (proto_child l n j w)) []) (proto_nested l n w) 0) x) (below_same k n)
    where
      plain : (j c : ℕ) → j < 0 + c → j < c
      plain j c h = omega (arith, h)

      constants : List ℕ → List Ref
      constants x = each (λ i. value_links (proto_constant l n i x)) (proto_constants l n w) 0

      nested : ℕ → List Ref
      nested c = each (λ j. if_lt (proto_child l n j u) n (proto_below u l k (proto_child l n j u)) []) c 0

  -- a closure
  pub closure_same : (p : ℕ) → Agree w u p 53 → closure_links u l p ≡ closure_links w l p
  unfolding closure_links
  closure_same p t =
      ap (λ (e : Option TableRef). whole e (is_rust p u) (closure_count p u) (closure_proto p u) u) (table_same t (p + 1) (omega arith) (omega arith))
      ∙ ap (λ (x : ℕ). whole (closure_env p w) (eqb x 1) (closure_count p u) (closure_proto p u) u) (t.word p (omega arith) (omega arith))
      ∙ ap (λ (x : ℕ). whole (closure_env p w) (is_rust p w) (bounded x 16) (closure_proto p u) u) (t.word (p + 4) (omega arith) (omega arith))
      ∙ ap (λ (x : ℕ). whole (closure_env p w) (is_rust p w) (closure_count p w) x u) (t.word (p + 3) (omega arith) (omega arith))
      ∙ ap (λ (x : List Ref). E ++ cond (is_rust p w) x (each (λ i. upval (closure_upvalue p i u) ∷ []) (closure_count p w) 0 ++ proto_links u l (closure_proto p w)))
      (values_same t (p + 5) (closure_count p w) (omega arith) (omega (arith, bounded_most (at w (p + 4)) 16)))
      ∙ ap (λ (x : List Ref). E ++ cond (is_rust p w) Vs (x ++ proto_links u l (closure_proto p w))) (upvals_same t (p + 5) (closure_count p w) (omega arith) (omega (arith, bounded_most (at w (p + 4)) 16)))
      ∙ ap (λ (x : List Ref). E ++ cond (is_rust p w) Vs (each (λ i. upval (closure_upvalue p i w) ∷ []) (closure_count p w) 0 ++ x)) (below_same (suc (closure_proto p w)) (closure_proto p w))
    where
      whole : Option TableRef → Bool → ℕ → ℕ → List ℕ → List Ref
      whole e r c n x =
          table_link e
          ++ cond r (each (λ i. value_links (closure_value p i x)) c 0)
          (each (λ i. upval (closure_upvalue p i x) ∷ []) c 0 ++ proto_links x l n)

      E : List Ref
      E = table_link (closure_env p w)

      Vs : List Ref
      Vs = each (λ i. value_links (closure_value p i w)) (closure_count p w) 0
