-- The strings of listed weak tables take the new white: keeping them is painting one list of handles. `w` are the words before
-- it, `c` is the white. Assumes nothing.
--     whitens_cases, whitens_in      what painting a list of handles does to colours
--     each_in, each_out         a handle in lists joined
--     tinted_shade              where only the colours of strings differ, other handles have theirs
--     keep_all_lem              keeping all is painting what each listed item holds, joined
--     strings_same              what a table holds where the words agree
use Rattle.std.specs.Prelude.{◌≡◌, Bool, ◌⊎◌, ◌≢◌}
use Rattle.std.proofs.Math.Path.{refl, sym, ap, subst}
use Rattle.std.proofs.Common.{◌∙◌}
use Rattle.std.proofs.Math.Bool.{true, false, cond}
use mathlib.Core.List.Memᴰ
use mathlib.Core.List.{List, [], ◌∷◌, ◌++◌, Memᴰ}
use Rattle.std.proofs.Math.Logic.{inl, inr, ⊎_elim}
use Prim.Native.Nat.{ℕ, zero, suc, min, ◌+◌, ◌-◌, ◌*◌, ◌≤◌, ◌<◌}
use Rattle.std.proofs.Math.Decide.{ℕ_discrete}
use native.Mathlib.Omega.{arith}
use Rattle.std.proofs.Math.ListN.{length, length-set}
use Rattle.std.proofs.Math.Seq.{get_or-set_other}
use Rattle.base.specs.Ways.{if_le, if_eq, eq_yes, eq_no}
use Rattle.base.specs.Loop.{rounds, run}
use Rattle.base.specs.Words.{at, bounded}
use Rattle.value.specs.declared.TableRef.{TableRef}
use Rattle.value.specs.declared.Value.{Value}
use Rattle.value.specs.declared.Value.TheVariants as value
use Rattle.value.specs.Values.{is_nil, value_at}
use Rattle.value.specs.Laws.{Outside, value_three}
use Rattle.layout.specs.declared.Lay.{Lay}
use Rattle.lists.specs.declared.Item.{Item}
use Rattle.lists.specs.declared.Item.TheVariants.{Table, Function, Userdata, Thread, Main, Unknown}
use Rattle.lists.specs.Lists.{item_in, length_of, place, item_at}
use Rattle.lists.proofs.Laws.{item_three}
use Rattle.record.specs.Fields.{body_at}
use Rattle.record.specs.Tables.{array_size, node_number, node_count, array_value, node_place, node_key, node_value}
use Rattle.laid.specs.Laid.{Laid}
use Rattle.mark.specs.Ops.{Ref, str, tab}
use Rattle.mark.specs.Words.{arena_of, colour_w, paint_w}
use Rattle.links.specs.Links.{each}
use Rattle.clearing.specs.Strings.{on_table, keep_value, keep_string, keep_nth, keep_strings, keep_node, keep_nth_node, keep_nodes, keep_table, keep_listed, keep_all}
use Rattle.link_laws.specs.Agrees.{Agree, value_same, each_same, nodes_most, nodes_same, key_same, node_value_same, size_same, bounded_most}
use Rattle.mark_laws.specs.Apart.{Apart, Order, order}
use Rattle.mark_laws.specs.Colours.{shade_parts}
use Rattle.reach.specs.Shades.{shade_alike, paint_any}
use Rattle.atomic_laws.specs.Kept.{string_in, node_strings, table_strings}
use Rattle.atomic_laws.specs.Spares.{whitens, Tinted, held_by, held}

-- A handle in lists joined is in one of them,
pub each_out : (g : ℕ → List Ref) (n i : ℕ) (x : Ref) → Memᴰ x (each g n i) → (j : ℕ) × (i ≤ j) × (j < i + n) × Memᴰ x (g j)
unfolding each
each_out g zero i x m = absurd (Memᴰ.not-nil m)
each_out g (suc n) i x m =
    ⊎_elim (λ k. (i, omega arith, omega arith, k)) (λ k. let r = each_out g n (i + 1) x k in (r.0, omega (arith, r.1), omega (arith, r.2), r.3)) (Memᴰ.append_cases (g i) m)

-- and the other way round.
pub each_in : (g : ℕ → List Ref) (n i j : ℕ) (x : Ref) → i ≤ j → j < i + n → Memᴰ x (g j) → Memᴰ x (each g n i)
unfolding each
each_in g zero i j x f h m = absurd (let z : ⊥ = omega (arith, f, h) in z)
each_in g (suc n) i j x f h m = go (ℕ_discrete i j) (λ k. each_in g n (i + 1) j x k (omega (arith, h)) m)
  where
    go : Dec (i ≡ j) → (i + 1 ≤ j → Memᴰ x (each g n (i + 1))) → Memᴰ x (g i ++ each g n (i + 1))
    go (yes e) rest = Memᴰ.append_left (each g n (i + 1)) (subst (λ k. Memᴰ x (g k)) (sym e) m)
    go (no d) rest = Memᴰ.append_right (g i) (rest (omega (arith, f, d)))

-- Two lists joined are painted one after the other.
pub whitens_append : (l : Lay) (c : ℕ) (xs ys : List Ref) (u : List ℕ) → whitens l c (xs ++ ys) u ≡ whitens l c ys (whitens l c xs u)
unfolding whitens
whitens_append l c [] ys u = refl
whitens_append l c (r ∷ xs) ys u = whitens_append l c xs ys (if_eq (colour_w l r u) 0 u (paint_w l r c u))

pub tinted_none : {l : Lay} {w : List ℕ} → Tinted l w w
tinted_none = record { long = refl; word = λ q h. refl }

module _ (l : Lay) (ok : Laid l) (a : Apart l) where
  abbrev o : Order l
  o = order l ok a

  -- What painting does to colours: those of the list that name a slot have the white, all others their colour.
  module _ (c : ℕ) (low : 1 ≤ c) (high : c ≤ 4) where
    -- one handle
    one_white : (r : Ref) (u : List ℕ) → l.words ≤ length u → (x : Ref) → ((x ≡ r) × (1 ≤ colour_w l x u) × (colour_w l x (if_eq (colour_w l r u) 0 u (paint_w l r c u)) ≡ c)) ⊎ (colour_w l x (if_eq (colour_w l r u) 0 u (paint_w l r c u)) ≡ colour_w l x u)
    one_white r u long x = go (ℕ_discrete (colour_w l r u) 0)
      where
        go : Dec (colour_w l r u ≡ 0) → ((x ≡ r) × (1 ≤ colour_w l x u) × (colour_w l x (if_eq (colour_w l r u) 0 u (paint_w l r c u)) ≡ c)) ⊎ (colour_w l x (if_eq (colour_w l r u) 0 u (paint_w l r c u)) ≡ colour_w l x u)
        go (yes e) = inr (ap (λ (y : List ℕ). colour_w l x y) (sym (eq_yes (colour_w l r u) 0 u (paint_w l r c u) u e refl)))
        go (no d) =
            let e : paint_w l r c u ≡ if_eq (colour_w l r u) 0 u (paint_w l r c u) = eq_no (colour_w l r u) 0 u (paint_w l r c u) (paint_w l r c u) d refl in
            let k = paint_any l ok a r c u long (some (colour_w l r u) d) high in
            ⊎_elim (λ p. inl (p.0, subst (λ y. 1 ≤ colour_w l y u) (sym p.0) (some (colour_w l r u) d), ap (λ (y : List ℕ). colour_w l x y) (sym e) ∙ p.1)) (λ p. inr (ap (λ (y : List ℕ). colour_w l x y) (sym e) ∙ p)) (k.cases x)
          where
            some : (n : ℕ) → n ≢ 0 → 1 ≤ n
            some n d = omega (arith, d)

    one_long : (r : Ref) (u : List ℕ) → length (if_eq (colour_w l r u) 0 u (paint_w l r c u)) ≡ length u
    one_long r u = go (ℕ_discrete (colour_w l r u) 0)
      where
        go : Dec (colour_w l r u ≡ 0) → length (if_eq (colour_w l r u) 0 u (paint_w l r c u)) ≡ length u
        go (yes e) = ap length (sym (eq_yes (colour_w l r u) 0 u (paint_w l r c u) u e refl))
        go (no d) = ap length (sym (eq_no (colour_w l r u) 0 u (paint_w l r c u) (paint_w l r c u) d refl)) ∙ length-set u ((arena_of l r.kind).base + r.at) c

    -- a handle names what it named
    one_stays : (r : Ref) (u : List ℕ) → l.words ≤ length u → (x : Ref) → 1 ≤ colour_w l x u → 1 ≤ colour_w l x (if_eq (colour_w l r u) 0 u (paint_w l r c u))
    one_stays r u long x h = ⊎_elim (λ p. subst (λ n. 1 ≤ n) (sym p.2) low) (λ p. subst (λ n. 1 ≤ n) (sym p) h) (one_white r u long x)

    one_was : (r : Ref) (u : List ℕ) → l.words ≤ length u → (x : Ref) → 1 ≤ colour_w l x (if_eq (colour_w l r u) 0 u (paint_w l r c u)) → 1 ≤ colour_w l x u
    one_was r u long x h = ⊎_elim (λ p. p.1) (λ p. subst (λ n. 1 ≤ n) p h) (one_white r u long x)

    pub whitens_cases : (rs : List Ref) (u : List ℕ) → l.words ≤ length u → (x : Ref) → (Memᴰ x rs × (1 ≤ colour_w l x u) × (colour_w l x (whitens l c rs u) ≡ c)) ⊎ (colour_w l x (whitens l c rs u) ≡ colour_w l x u)
    unfolding whitens
    whitens_cases [] u long x = inr refl
    whitens_cases (r ∷ rs) u long x =
        let v = if_eq (colour_w l r u) 0 u (paint_w l r c u) in
        ⊎_elim (λ p. inl (Memᴰ.tail p.0, one_was r u long x p.1, p.2))
        (λ p. ⊎_elim (λ q. inl (Memᴰ.head q.0, q.1, p ∙ q.2)) (λ q. inr (p ∙ q)) (one_white r u long x))
        (whitens_cases rs v (omega (arith, long, one_long r u)) x)

    pub whitens_in : (rs : List Ref) (u : List ℕ) → l.words ≤ length u → (x : Ref) → Memᴰ x rs → 1 ≤ colour_w l x u → colour_w l x (whitens l c rs u) ≡ c
    unfolding whitens
    whitens_in [] u long x m h = absurd (Memᴰ.not-nil m)
    whitens_in (r ∷ rs) u long x m h =
        let v = if_eq (colour_w l r u) 0 u (paint_w l r c u) in
        let v_long : l.words ≤ length v = omega (arith, long, one_long r u) in
        ⊎_elim
        (λ e. ⊎_elim (λ p. p.2) (λ p. p ∙ here r e) (whitens_cases rs v v_long x))
        (λ n. whitens_in rs v v_long x n (one_stays r u long x h))
        (Memᴰ.cases_cons m)
      where
        here : (r : Ref) → x ≡ r → colour_w l x (if_eq (colour_w l r u) 0 u (paint_w l r c u)) ≡ c
        here r e =
            let d : colour_w l r u ≢ 0 = λ z. none (colour_w l x u) h (ap (λ (y : Ref). colour_w l y u) e ∙ z) in
            ap (λ (y : List ℕ). colour_w l x y) (sym (eq_no (colour_w l r u) 0 u (paint_w l r c u) (paint_w l r c u) d refl))
            ∙ ap (λ (y : Ref). colour_w l y (paint_w l r c u)) e
            ∙ (paint_any l ok a r c u long (some (colour_w l r u) d) high).here
          where
            none : (n : ℕ) → 1 ≤ n → n ≡ 0 → ⊥
            none n f g = omega (arith, f, g)

            some : (n : ℕ) → n ≢ 0 → 1 ≤ n
            some n d = omega (arith, d)

  -- Words that differ in the colours of strings alone have the same colours of other kinds.
  pub tinted_shade : {w u : List ℕ} → Tinted l w u → (t : TableRef) → colour_w l (tab t) u ≡ colour_w l (tab t) w
  tinted_shade {w} {u} s t =
      shade_alike l ok a w u (tab t) (rw (s.word (l.tables.top + 1) (inl (omega (arith, o.top_tables, o.header)))))
      (λ i. s.word (l.tables.base + l.tables.slots + t.0) (inr (omega (arith, a))))
      (λ i. s.word (l.tables.base + t.0) (inr (omega (arith, a))))

module _ (l : Lay) (ok : Laid l) (a : Apart l) (c : ℕ) (w : List ℕ) where
  abbrev ord : Order l
  ord = order l ok a

  -- Strings alone are painted.
  string_tinted : (v : Value) {u : List ℕ} → Tinted l w u → Tinted l w (whitens l c (string_in v) u)
  unfolding whitens
  string_tinted (value.Str s) {u} t = go (ℕ_discrete (colour_w l (str s) u) 0)
    where
      go : Dec (colour_w l (str s) u ≡ 0) → Tinted l w (if_eq (colour_w l (str s) u) 0 u (paint_w l (str s) c u))
      go (yes e) = subst (λ x. Tinted l w x) (eq_yes (colour_w l (str s) u) 0 u (paint_w l (str s) c u) u e refl) t
      go (no d) =
          let p = shade_parts l.strings s.0 s.1 u (omega (arith, d)) in
          subst (λ x. Tinted l w x) (eq_no (colour_w l (str s) u) 0 u (paint_w l (str s) c u) (paint_w l (str s) c u) d refl)
          (record { long = length-set u (l.strings.base + s.0) c ∙ t.long; word = λ q h. get_or-set_other u (l.strings.base + s.0) q c 0 (apart q h (omega (arith, p.0))) ∙ t.word q h })
        where
          apart : (q : ℕ) → Outside l.strings.base l.strings.slots q → s.0 < l.strings.slots → q ≢ l.strings.base + s.0
          apart q (inl f) g e = omega (arith, e, f)
          apart q (inr f) g e = omega (arith, e, f, g)
  string_tinted value.Nil t = t
  string_tinted (value.Boolean x) t = t
  string_tinted (value.Light x) t = t
  string_tinted (value.Number x) t = t
  string_tinted (value.Table r) t = t
  string_tinted (value.Function r) t = t
  string_tinted (value.Userdata r) t = t
  string_tinted (value.Thread r) t = t

  -- the word at a place from the boundary on
  past : (q : ℕ) → l.boundary ≤ q → {u : List ℕ} → Tinted l w u → at u q ≡ at w q
  past q h t = t.word q (inr (omega (arith, h, a)))

  past_value : (q : ℕ) → l.boundary ≤ q → {u : List ℕ} → Tinted l w u → value_at u q ≡ value_at w q
  past_value q h {u} t = value_three q u w (past q h t) (past (q + 1) (omega (arith, h)) t) (past (q + 2) (omega (arith, h)) t)

  -- A loop whose turn i paints the list g i paints the lists joined.
  module _ (step : ℕ → List ℕ → List ℕ) (g : ℕ → List Ref) (e : ℕ) (keep : (i : ℕ) (u : List ℕ) → Tinted l w u → Tinted l w (whitens l c (g i) u))
      (turn : (i : ℕ) → i < e → (u : List ℕ) → Tinted l w u → step i u ≡ whitens l c (g i) u) where
    rounds_paint : (n i : ℕ) → i + n ≤ e → {u : List ℕ} → Tinted l w u → rounds step n i u ≡ whitens l c (each g n i) u
    unfolding rounds each whitens
    rounds_paint zero i h t = refl
    rounds_paint (suc n) i h {u} t =
        ap (rounds step n (i + 1)) (turn i (omega (arith, h)) u t)
        ∙ rounds_paint n (i + 1) (omega (arith, h)) (keep i u t)
        ∙ sym (whitens_append l c (g i) (each g n (i + 1)) u)

    loop_paint : {u : List ℕ} → Tinted l w u → run step 0 e u ≡ whitens l c (each g e 0) u
    unfolding run
    loop_paint {u} t =
        let q : e - 0 ≡ e = omega arith in
        ap (λ (n : ℕ). rounds step n 0 u) q ∙ rounds_paint e 0 (omega arith) t

  -- the lists joined keep what each keeps
  each_tinted : (g : ℕ → List Ref) → ((i : ℕ) (u : List ℕ) → Tinted l w u → Tinted l w (whitens l c (g i) u)) → (n i : ℕ) {u : List ℕ} → Tinted l w u → Tinted l w (whitens l c (each g n i) u)
  unfolding each whitens
  each_tinted g keep zero i t = t
  each_tinted g keep (suc n) i {u} t = subst (λ x. Tinted l w x) (sym (whitens_append l c (g i) (each g n (i + 1)) u)) (each_tinted g keep n (i + 1) (keep i u t))

  append_tinted : (xs ys : List Ref) → ((u : List ℕ) → Tinted l w u → Tinted l w (whitens l c xs u)) → ((u : List ℕ) → Tinted l w u → Tinted l w (whitens l c ys u)) → {u : List ℕ} → Tinted l w u → Tinted l w (whitens l c (xs ++ ys) u)
  append_tinted xs ys f g {u} t = subst (λ x. Tinted l w x) (sym (whitens_append l c xs ys u)) (g (whitens l c xs u) (f u t))

  -- The value at a place from the boundary on,
  value_paints : (v : Value) (u : List ℕ) → keep_value l c u v ≡ whitens l c (string_in v) u
  unfolding keep_value whitens
  value_paints (value.Str s) u = refl
  value_paints value.Nil u = refl
  value_paints (value.Boolean x) u = refl
  value_paints (value.Light x) u = refl
  value_paints (value.Number x) u = refl
  value_paints (value.Table r) u = refl
  value_paints (value.Function r) u = refl
  value_paints (value.Userdata r) u = refl
  value_paints (value.Thread r) u = refl

  string_paints : (q : ℕ) → l.boundary ≤ q → {u : List ℕ} → Tinted l w u → keep_string l c q u ≡ whitens l c (string_in (value_at w q)) u
  unfolding keep_string
  string_paints q h {u} t = value_paints (value_at u q) u ∙ ap (λ (v : Value). whitens l c (string_in v) u) (past_value q h t)

  -- a node,
  node_paints : (q : ℕ) → l.boundary ≤ q → {u : List ℕ} → Tinted l w u → keep_node l c q u ≡ whitens l c (cond (is_nil (value_at w q)) [] (string_in (value_at w q) ++ string_in (value_at w (q + 3)))) u
  unfolding keep_node whitens
  node_paints q h {u} t = ap (λ (v : Value). cond (is_nil v) u (keep_string l c (q + 3) (keep_string l c q u))) (past_value q h t) ∙ go (is_nil (value_at w q))
    where
      go : (d : Bool) → cond d u (keep_string l c (q + 3) (keep_string l c q u)) ≡ whitens l c (cond d [] (string_in (value_at w q) ++ string_in (value_at w (q + 3)))) u
      go true = refl
      go false =
          ap (keep_string l c (q + 3)) (string_paints q h t)
          ∙ string_paints (q + 3) (omega (arith, h)) (string_tinted (value_at w q) t)
          ∙ sym (whitens_append l c (string_in (value_at w q)) (string_in (value_at w (q + 3))) u)

  node_tinted : (k v : Value) {u : List ℕ} → Tinted l w u → Tinted l w (whitens l c (cond (is_nil k) [] (string_in k ++ string_in v)) u)
  unfolding whitens
  node_tinted k v {u} t = go (is_nil k)
    where
      go : (d : Bool) → Tinted l w (whitens l c (cond d [] (string_in k ++ string_in v)) u)
      go true = t
      go false = append_tinted (string_in k) (string_in v) (λ x s. string_tinted k s) (λ x s. string_tinted v s) t

  -- a table,
  array_tinted : (p n : ℕ) {u : List ℕ} → Tinted l w u → Tinted l w (whitens l c (each (λ i. string_in (array_value p i w)) n 0) u)
  array_tinted p n t = each_tinted (λ i. string_in (array_value p i w)) (λ i x s. string_tinted (array_value p i w) s) n 0 t

  nodes_tinted : (p n : ℕ) {u : List ℕ} → Tinted l w u → Tinted l w (whitens l c (each (node_strings p w) n 0) u)
  nodes_tinted p n t = each_tinted (node_strings p w) (λ j x s. node_tinted (node_key p j w) (node_value p j w) s) n 0 t

  table_tinted : (p : ℕ) {u : List ℕ} → Tinted l w u → Tinted l w (whitens l c (table_strings p w) u)
  unfolding table_strings
  table_tinted p t =
      append_tinted (each (λ i. string_in (array_value p i w)) (array_size p w) 0) (each (node_strings p w) (node_count p w) 0) (λ x s. array_tinted p (array_size p w) s) (λ x s. nodes_tinted p (node_count p w) s) t

  body_paints : (p : ℕ) → l.boundary ≤ p → {u : List ℕ} → Tinted l w u → keep_nodes l c (p + 4 + 3 * array_size p u) (node_count p u) (keep_strings l c (p + 4) (array_size p u) u) ≡ whitens l c (table_strings p w) u
  unfolding keep_nodes keep_strings table_strings
  body_paints p h {u} t =
      ap (λ (x : ℕ). run (keep_nth_node l c (p + 4 + 3 * bounded x 64)) 0 (node_count p u) (run (keep_nth l c (p + 4)) 0 (bounded x 64) u)) (past (p + 2) (omega (arith, h)) t)
      ∙ ap (λ (x : ℕ). run (keep_nth_node l c (p + 4 + 3 * array_size p w)) 0 (node_number x) (run (keep_nth l c (p + 4)) 0 (array_size p w) u)) (past (p + 3) (omega (arith, h)) t)
      ∙ ap (run (keep_nth_node l c (p + 4 + 3 * array_size p w)) 0 (node_count p w))
      (loop_paint (keep_nth l c (p + 4)) (λ i. string_in (array_value p i w)) (array_size p w) (λ i x s. string_tinted (array_value p i w) s) (λ i f x s. string_paints (p + 4 + 3 * i) (omega (arith, h)) s) t)
      ∙ loop_paint (keep_nth_node l c (p + 4 + 3 * array_size p w)) (node_strings p w) (node_count p w) (λ j x s. node_tinted (node_key p j w) (node_value p j w) s) (λ j f x s. node_paints (node_place p j w) (omega (arith, h)) s) (array_tinted p (array_size p w) t)
      ∙ sym (whitens_append l c (each (λ i. string_in (array_value p i w)) (array_size p w) 0) (each (node_strings p w) (node_count p w) 0) u)

  table_paints : (r : TableRef) {u : List ℕ} → Tinted l w u → keep_table l c r u ≡ whitens l c (held_by l w (Table r)) u
  unfolding keep_table whitens
  table_paints r {u} t =
      ap (λ (n : ℕ). if_eq n 0 u (keep_nodes l c (p + 4 + 3 * array_size p u) (node_count p u) (keep_strings l c (p + 4) (array_size p u) u))) (tinted_shade l ok a t r)
      ∙ go (ℕ_discrete (colour_w l (tab r) w) 0)
    where
      p : ℕ
      p = body_at l.tables r.0

      go : Dec (colour_w l (tab r) w ≡ 0) → if_eq (colour_w l (tab r) w) 0 u (keep_nodes l c (body_at l.tables r.0 + 4 + 3 * array_size (body_at l.tables r.0) u) (node_count (body_at l.tables r.0) u) (keep_strings l c (body_at l.tables r.0 + 4) (array_size (body_at l.tables r.0) u) u))
          ≡ whitens l c (if_eq (colour_w l (tab r) w) 0 [] (table_strings (body_at l.tables r.0) w)) u
      go (yes e) = sym (eq_yes (colour_w l (tab r) w) 0 u _ u e refl) ∙ ap (λ (rs : List Ref). whitens l c rs u) (eq_yes (colour_w l (tab r) w) 0 [] (table_strings (body_at l.tables r.0) w) [] e refl)
      go (no d) =
          sym (eq_no (colour_w l (tab r) w) 0 u _ _ d refl)
          ∙ body_paints (body_at l.tables r.0) (omega (arith, ord.past_tables)) t
          ∙ ap (λ (rs : List Ref). whitens l c rs u) (eq_no (colour_w l (tab r) w) 0 [] (table_strings (body_at l.tables r.0) w) (table_strings (body_at l.tables r.0) w) d refl)

  held_tinted : (x : Item) {u : List ℕ} → Tinted l w u → Tinted l w (whitens l c (held_by l w x) u)
  unfolding whitens
  held_tinted (Table r) {u} t = go (ℕ_discrete (colour_w l (tab r) w) 0)
    where
      go : Dec (colour_w l (tab r) w ≡ 0) → Tinted l w (whitens l c (if_eq (colour_w l (tab r) w) 0 [] (table_strings (body_at l.tables r.0) w)) u)
      go (yes e) = subst (λ rs. Tinted l w (whitens l c rs u)) (eq_yes (colour_w l (tab r) w) 0 [] (table_strings (body_at l.tables r.0) w) [] e refl) t
      go (no d) = subst (λ rs. Tinted l w (whitens l c rs u)) (eq_no (colour_w l (tab r) w) 0 [] (table_strings (body_at l.tables r.0) w) (table_strings (body_at l.tables r.0) w) d refl) (table_tinted (body_at l.tables r.0) t)
  held_tinted (Function r) t = t
  held_tinted (Userdata r) t = t
  held_tinted (Thread r) t = t
  held_tinted Main t = t
  held_tinted Unknown t = t

  item_paints : (x : Item) {u : List ℕ} → Tinted l w u → on_table (keep_table l c) x u ≡ whitens l c (held_by l w x) u
  unfolding on_table whitens
  item_paints (Table r) t = table_paints r t
  item_paints (Function r) t = refl
  item_paints (Userdata r) t = refl
  item_paints (Thread r) t = refl
  item_paints Main t = refl
  item_paints Unknown t = refl

  -- and all that are listed.
  same_item : (k : ℕ) {u : List ℕ} → Tinted l w u → item_at l.weak k u ≡ item_at l.weak k w
  unfolding item_at
  same_item k {u} t =
      ap (λ (n : ℕ). if_le (min n l.weak.room) k Unknown (item_in u (place l.weak k))) (t.word l.weak.count (inl (omega (arith, ord.weak, ord.header))))
      ∙ ap (λ (x : Item). if_le (length_of l.weak w) k Unknown x)
      (item_three (place l.weak k) u w (t.word (place l.weak k) (inr (omega (arith, a)))) (t.word (place l.weak k + 1) (inr (omega (arith, a)))) (t.word (place l.weak k + 2) (inr (omega (arith, a)))))

  -- Keeping the strings of all listed tables is painting all that they hold.
  pub keep_all_lem : (keep_all l c w ≡ whitens l c (held l w) w) × Tinted l w (whitens l c (held l w) w)
  unfolding keep_all keep_listed
  keep_all_lem = (
    loop_paint (keep_listed l c) (λ k. held_by l w (item_at l.weak k w)) (length_of l.weak w) (λ k u t. held_tinted (item_at l.weak k w) t)
        (λ k f u t. ap (λ (x : Item). on_table (keep_table l c) x u) (same_item k t) ∙ item_paints (item_at l.weak k w) t) tinted_none,
    each_tinted (λ k. held_by l w (item_at l.weak k w)) (λ k u t. held_tinted (item_at l.weak k w) t) (length_of l.weak w) 0 tinted_none,
  )

-- What a table holds is the same where the words agree on its record.
pub strings_same : {w u : List ℕ} {p : ℕ} → Agree w u p 580 → table_strings p u ≡ table_strings p w
unfolding table_strings
strings_same {w} {u} {p} s =
    ap (λ (n : ℕ). each (λ i. string_in (array_value p i u)) n 0 ++ each (node_strings p u) (node_count p u) 0) (size_same s)
    ∙ ap (λ (n : ℕ). each (λ i. string_in (array_value p i u)) (array_size p w) 0 ++ each (node_strings p u) n 0) (nodes_same s)
    ∙ ap (λ (x : List Ref). x ++ each (node_strings p u) (node_count p w) 0)
    (each_same (λ i. string_in (array_value p i u)) (λ i. string_in (array_value p i w)) (array_size p w) 0 (λ j f g. ap string_in (value_same s (p + 4 + 3 * j) (omega arith) (omega (arith, g, bounded_most (at w (p + 2)) 64)))))
    ∙ ap (λ (x : List Ref). each (λ i. string_in (array_value p i w)) (array_size p w) 0 ++ x) (each_same (node_strings p u) (node_strings p w) (node_count p w) 0 (λ j f g. node j (omega (arith, g, nodes_most (at w (p + 3))))))
  where
    pair : Value → Value → List Ref
    pair k v = cond (is_nil k) [] (string_in k ++ string_in v)

    node : (j : ℕ) → j < 64 → node_strings p u j ≡ node_strings p w j
    node j h = ap (λ (k : Value). pair k (node_value p j u)) (key_same s j h) ∙ ap (pair (node_key p j w)) (node_value_same s j h)
