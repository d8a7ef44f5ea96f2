-- What the manual calls accessible is what the roots reach along followed links. Assumes nothing.
--     mode_is, mode_of                 the mode of a table and the bytes of its `__mode`
--     weak_keys, weak_values           the manual's weak tables are those of document 01
--     strong_out, strong_in            strong references are the followed links
--     accessible_exact                 accessible is reached
--     finalize_exact, retained_exact   what is put on the list of those to finalize is due; what is not collected is kept
use Rattle.std.specs.Prelude.{◌≡◌, Bool, false, cond, ◌⊎◌, ◌↔◌, ℕ, ◌<◌, eqb, Some, None, Option}
use Rattle.std.proofs.Math.Path.{refl, ap}
use Rattle.std.proofs.Common.{sym, subst, ◌∙◌, true≢false, arith, eqb-true, eq-eqb}
use Rattle.std.proofs.Math.Bool.{true}
use mathlib.Core.List.Memᴰ
use mathlib.Core.List.{List, [], ◌∷◌, ◌++◌, Memᴰ}
use Rattle.std.proofs.Math.Logic.{inl, inr, ⊎_elim}
use Rattle.arena.specs.Slots.{named}
use Rattle.value.specs.declared.StrRef.{StrRef}
use Rattle.value.specs.declared.TableRef.{TableRef}
use Rattle.value.specs.declared.Value.{Value}
use Rattle.value.specs.declared.Value.TheVariants.{Nil, Boolean, Light, Number, Str, Table, Function, Userdata, Thread}
use Rattle.value.specs.Values.{is_nil}
use Rattle.layout.specs.declared.Lay.{Lay}
use Rattle.record.specs.Fields.{body_at}
use Rattle.record.specs.Strings.{string_length, text_of, has_byte}
use Rattle.record.specs.Tables.{table_meta, array_size, node_count, array_value, node_key, node_value}
use Rattle.record.specs.Userdata.{ud_finalized}
use Rattle.main_record.specs.Main.{mode_name}
use Rattle.mark.specs.Ops.{Ref}
use Rattle.modes.specs.declared.Mode.{Mode}
use Rattle.modes.specs.Modes.{field, strong, mode_of_text, mode_of_slot, mode_of_string, mode_of_value, weak_mode}
use Rattle.links.specs.Links.{value_links, each, node_links, entry_links}
use Rattle.reach.specs.Reached.{Reach, Reach-root, Reach-step, Occupied, Link, Root, Reached}
use Rattle.reach.specs.Tri.{reach_occ}
use Rattle.atomic_laws.specs.Kept.{Due, KeptRoot, Kept}
use Rattle.atomic_laws.proofs.Spares.{each_out, each_in}
use Rattle.manual.specs.Manual.{WeakKeys, WeakValues, Strong, Strong-other, Strong-key, Strong-value, From, From-start, From-step, Accessible, ToFinalize, Retained}
use Rattle.manual.proofs.Records.{links_out, links_in, entries_in, rooted_out, rooted_in}
use Rattle.manual.specs.Instance.{Object, Rooted, EntryOf, EntryOf-array, EntryOf-node, key_links, values_links, ModeIs, in_tables, in_userdata, heap}

-- The byte search finds a byte exactly if it is one of them.
has_in : (s : List ℕ) (c : ℕ) → has_byte s c ≡ true → Memᴰ c s
unfolding has_byte
has_in [] c e = absurd (true≢false (sym e))
has_in (x ∷ xs) c e = go (eqb x c) refl (λ q. has_in xs c q) e
  where
    go : (y : Bool) → eqb x c ≡ y → (has_byte xs c ≡ true → Memᴰ c xs) → cond y true (has_byte xs c) ≡ true → Memᴰ c (x ∷ xs)
    go true p f q = Memᴰ.head (sym (eqb-true x c p))
    go false p f q = Memᴰ.tail (f q)

has_out : (s : List ℕ) (c : ℕ) → Memᴰ c s → has_byte s c ≡ true
unfolding has_byte
has_out [] c m = absurd (Memᴰ.not-nil m)
has_out (x ∷ xs) c m = ⊎_elim (λ e. ap (λ (y : Bool). cond y true (has_byte xs c)) (eq-eqb x c (sym e))) (λ k. later (eqb x c) (has_out xs c k)) (Memᴰ.cases_cons m)
  where
    later : (y : Bool) → has_byte xs c ≡ true → cond y true (has_byte xs c) ≡ true
    later true e = refl
    later false e = e

-- what refers to something is not nil
solid : (v : Value) {q : Ref} → Memᴰ q (value_links v) → is_nil v ≡ false
solid Nil m = absurd (Memᴰ.not-nil m)
solid (Boolean x) m = refl
solid (Light x) m = refl
solid (Number x) m = refl
solid (Str r) m = refl
solid (Table r) m = refl
solid (Function r) m = refl
solid (Userdata r) m = refl
solid (Thread r) m = refl

-- a part that stands unless something is so
unless_out : (c : Bool) (xs : List Ref) {q : Ref} → Memᴰ q (cond c [] xs) → (c ≡ false) × Memᴰ q xs
unless_out true xs m = absurd (Memᴰ.not-nil m)
unless_out false xs m = (refl, m)

unless_in : (c : Bool) (xs : List Ref) {q : Ref} → c ≡ false → Memᴰ q xs → Memᴰ q (cond c [] xs)
unless_in c xs {q} e m = subst (λ x. Memᴰ q (cond x [] xs)) (sym e) m

not_true : (c : Bool) → (c ≡ true → ⊥) → c ≡ false
not_true true f = absurd (f refl)
not_true false f = refl

module _ (l : Lay) (w b : List ℕ) where
  abbrev mode_at : Ref → Mode
  mode_at r = weak_mode l (table_meta (in_tables l w b r) w) w b

  -- The mode of a table is that of the bytes of its `__mode`,
  mode_is : (r : Ref) (s : List ℕ) → ModeIs l w b r s → mode_at r ≡ mode_of_text s
  unfolding weak_mode mode_of_value mode_of_string
  mode_is r s m =
      ap (λ (t : Option TableRef). weak_mode l t w b) m.given
      ∙ ap (λ (v : Value). mode_of_value l v w b) m.under
      ∙ ap (λ (n : Option ℕ). mode_of_slot l w b n) m.found
      ∙ ap mode_of_text (sym m.text)

  -- and where it is weak there are such bytes.
  abbrev Given : (Mode → Bool) → Ref → Type 0
  Given part r = (s : List ℕ) × ModeIs l w b r s × (part (mode_of_text s) ≡ true)

  mode_of : (r : Ref) → r.kind ≡ 1 → (part : Mode → Bool) → part strong ≡ false → part (mode_at r) ≡ true → Given part r
  unfolding weak_mode mode_of_value mode_of_string
  mode_of r k part z e = by_meta (table_meta (in_tables l w b r) w) refl e
    where
      none : part strong ≡ true → Given part r
      none h = absurd (true≢false (sym h ∙ z))

      by_slot : (t : TableRef) → table_meta (in_tables l w b r) w ≡ Some t → (s : StrRef) → field l t (mode_name w) w ≡ Str s
          → (n : Option ℕ) → named l.strings s.0 s.1 w ≡ n → part (mode_of_slot l w b n) ≡ true → Given part r
      by_slot t f s g None h i = none i
      by_slot t f s g (Some j) h i = (
        text_of j (string_length (body_at l.strings j) w) b,
        record { table = k; metatable = t; given = f; string = s; under = g; slot = j; found = h; text = refl },
        i,
      )

      by_value : (t : TableRef) → table_meta (in_tables l w b r) w ≡ Some t → (v : Value) → field l t (mode_name w) w ≡ v → part (mode_of_value l v w b) ≡ true → Given part r
      by_value t f Nil g h = none h
      by_value t f (Boolean x) g h = none h
      by_value t f (Light x) g h = none h
      by_value t f (Number x) g h = none h
      by_value t f (Str s) g h = by_slot t f s g (named l.strings s.0 s.1 w) refl h
      by_value t f (Table x) g h = none h
      by_value t f (Function x) g h = none h
      by_value t f (Userdata x) g h = none h
      by_value t f (Thread x) g h = none h

      by_meta : (t : Option TableRef) → table_meta (in_tables l w b r) w ≡ t → part (weak_mode l t w b) ≡ true → Given part r
      by_meta None f h = none h
      by_meta (Some t) f h = by_value t f (field l t (mode_name w) w) refl h

  -- The manual's weak tables are those of document 01.
  pub weak_keys : (x : Object l w b) → x.0.kind ≡ 1 → WeakKeys (heap l w b) x ↔ ((mode_at x.0).keys ≡ true)
  weak_keys x k = (
    (λ (s, m, c). ap (λ (n : Mode). n.keys) (mode_is x.0 s m) ∙ has_out s 107 c),
    (λ e. let a = mode_of x.0 k (λ n. n.keys) refl e in (a.0, a.1, has_in a.0 107 a.2)),
  )

  pub weak_values : (x : Object l w b) → x.0.kind ≡ 1 → WeakValues (heap l w b) x ↔ ((mode_at x.0).values ≡ true)
  weak_values x k = (
    (λ (s, m, c). ap (λ (n : Mode). n.values) (mode_is x.0 s m) ∙ has_out s 118 c),
    (λ e. let a = mode_of x.0 k (λ n. n.values) refl e in (a.0, a.1, has_in a.0 118 a.2)),
  )

  -- What an entry of a table refers to, where the mode lets it: a list of it is in the table's links, and the other way round.
  module _ (r : Ref) (k : r.kind ≡ 1) (m : Mode) (q : Ref) where
    abbrev p : ℕ
    p = in_tables l w b r

    abbrev Given_by : Type 0
    Given_by = ((e : EntryOf l w b r) × Memᴰ q (key_links l w b r e) × (m.keys ≡ false)) ⊎ ((e : EntryOf l w b r) × Memᴰ q (values_links l w b r e) × (m.values ≡ false))

    node_out : (j : ℕ) → j < node_count p w → Memᴰ q (node_links w m p j) → Given_by
    unfolding node_links
    node_out j f h =
        let a = unless_out (is_nil (node_key p j w)) _ h in
        let c = unless_out (is_nil (node_value p j w)) _ a.1 in
        let e : EntryOf l w b r = EntryOf-node k j f a.0 c.0 in
        ⊎_elim (λ i. let d = unless_out m.keys _ i in inl (e, d.1, d.0)) (λ i. let d = unless_out m.values _ i in inr (e, d.1, d.0)) (Memᴰ.append_cases (cond m.keys [] (value_links (node_key p j w))) c.1)

    entry_out : Memᴰ q (entry_links w m p) → Given_by
    unfolding entry_links
    entry_out h = ⊎_elim in_array in_nodes (Memᴰ.append_cases (cond m.values [] (each (λ i. value_links (array_value p i w)) (array_size p w) 0)) h)
      where
        in_array : Memᴰ q (cond m.values [] (each (λ i. value_links (array_value p i w)) (array_size p w) 0)) → Given_by
        in_array h =
            let a = unless_out m.values _ h in
            let c = each_out (λ i. value_links (array_value p i w)) (array_size p w) 0 q a.1 in
            inr (EntryOf-array k c.0 (omega (arith, c.2)) (solid (array_value p c.0 w) c.3), c.3, a.0)

        in_nodes : Memᴰ q (each (node_links w m p) (node_count p w) 0) → Given_by
        in_nodes h = let c = each_out (node_links w m p) (node_count p w) 0 q h in node_out c.0 (omega (arith, c.2)) c.3

    node_in : (j : ℕ) → j < node_count p w → is_nil (node_key p j w) ≡ false → is_nil (node_value p j w) ≡ false
        → Memᴰ q (cond m.keys [] (value_links (node_key p j w)) ++ cond m.values [] (value_links (node_value p j w))) → Memᴰ q (entry_links w m p)
    unfolding entry_links node_links
    node_in j f g h i =
        Memᴰ.append_right (cond m.values [] (each (λ i. value_links (array_value p i w)) (array_size p w) 0))
        (each_in (node_links w m p) (node_count p w) 0 j q (omega arith) (omega (arith, f)) (unless_in (is_nil (node_key p j w)) _ g (unless_in (is_nil (node_value p j w)) _ h i)))

    array_in : (i : ℕ) → i < array_size p w → m.values ≡ false → Memᴰ q (value_links (array_value p i w)) → Memᴰ q (entry_links w m p)
    unfolding entry_links
    array_in i f e h =
        Memᴰ.append_left (each (node_links w m p) (node_count p w) 0)
        (unless_in m.values _ e (each_in (λ i. value_links (array_value p i w)) (array_size p w) 0 i q (omega arith) (omega (arith, f)) h))

    key_in : (e : EntryOf l w b r) → Memᴰ q (key_links l w b r e) → m.keys ≡ false → Memᴰ q (entry_links w m p)
    key_in (EntryOf-array c i f n) h g = absurd (Memᴰ.not-nil h)
    key_in (EntryOf-node c j f x y) h g = node_in j f x y (Memᴰ.append_left (cond m.values [] (value_links (node_value p j w))) (unless_in m.keys _ g h))

    value_in : (e : EntryOf l w b r) → Memᴰ q (values_links l w b r e) → m.values ≡ false → Memᴰ q (entry_links w m p)
    value_in (EntryOf-array c i f n) h g = array_in i f g h
    value_in (EntryOf-node c j f x y) h g = node_in j f x y (Memᴰ.append_right (cond m.keys [] (value_links (node_key p j w))) (unless_in m.values _ g h))

  -- Strong references are the followed links.
  pub strong_out : (x y : Object l w b) → Link l w b x.0 y.0 → Strong (heap l w b) x y
  strong_out x y m = ⊎_elim (λ i. Strong-other i) (λ (k, i). by_entry k (entry_out x.0 k (mode_at x.0) y.0 i)) (links_out l w b x.0 y.0 m)
    where
      by_entry : (k : x.0.kind ≡ 1) → Given_by x.0 k (mode_at x.0) y.0 → Strong (heap l w b) x y
      by_entry k (inl (e, i, n)) = Strong-key e i (λ z. true≢false (sym ((weak_keys x k).0 z) ∙ n))
      by_entry k (inr (e, i, n)) = Strong-value e i (λ z. true≢false (sym ((weak_values x k).0 z) ∙ n))

  -- what has an entry is a table
  pub table_of : (r : Ref) → EntryOf l w b r → r.kind ≡ 1
  table_of r (EntryOf-array k i f n) = k
  table_of r (EntryOf-node k j f m n) = k

  pub strong_in : (x y : Object l w b) → Strong (heap l w b) x y → Link l w b x.0 y.0
  strong_in x y (Strong-other i) = links_in l w b x.0 y.0 i
  strong_in x y (Strong-key e i n) =
      let k = table_of x.0 e in
      entries_in l w b x.0 y.0 (k, key_in x.0 k (mode_at x.0) y.0 e i (not_true (mode_at x.0).keys (λ z. n ((weak_keys x k).1 z))))
  strong_in x y (Strong-value e i n) =
      let k = table_of x.0 e in
      entries_in l w b x.0 y.0 (k, value_in x.0 k (mode_at x.0) y.0 e i (not_true (mode_at x.0).values (λ z. n ((weak_values x k).1 z))))

  -- Chains of strong references, from whatever they start, are chains of followed links.
  module _ (R : Object l w b → Type 0) (R' : Ref → Type 0) where
    reach_from : ((x : Object l w b) → R' x.0 → R x) → (r : Ref) → Reach (Link l w b) R' (Occupied l w) r → (o : Occupied l w r) → From (heap l w b) R (r, o)
    reach_from f r (Reach-root m o) z = From-start (f (r, z) m)
    reach_from f r (Reach-step {i = s} h m o) z = From-step (reach_from f s h (reach_occ h)) (strong_out (s, reach_occ h) (r, z) m)

    from_reach : ((x : Object l w b) → R x → R' x.0) → (x : Object l w b) → From (heap l w b) R x → Reach (Link l w b) R' (Occupied l w) x.0
    from_reach f x (From-start i) = Reach-root (f x i) x.1
    from_reach f x (From-step {x = y} h s) = Reach-step (from_reach f y h) (strong_in y x s) x.1

  -- What the manual calls accessible is what the roots reach,
  pub accessible_exact : (x : Object l w b) → Accessible (heap l w b) x ↔ Reached l w b x.0
  accessible_exact x = (
    from_reach (λ y. Rooted l w b y.0) (Root l w b) (λ y i. rooted_in l w b y.0 i) x,
    λ h. reach_from (λ y. Rooted l w b y.0) (Root l w b) (λ y i. rooted_out l w b y.0 i) x.0 h x.1,
  )

  -- what it puts on the list is due,
  pub finalize_exact : (x : Object l w b) → ToFinalize (heap l w b) x ↔ Due l w b x.0
  finalize_exact x = (
    (λ t. record {
      userdata = t.userdata;
      occupied = x.1;
      unfinalized = not_true (ud_finalized (in_userdata l w b x.0) w) (λ z. t.first (t.userdata, z));
      method = t.method.1;
      unreached = λ h. t.dead ((accessible_exact x).1 h);
    }),
    (λ d. record {
      userdata = d.userdata;
      method = (d.userdata, d.method);
      first = λ (k, z). true≢false (sym z ∙ d.unfinalized);
      dead = λ h. d.unreached ((accessible_exact x).0 h);
    }),
  )

  -- and what it does not collect is kept.
  pub retained_exact : (x : Object l w b) → Retained (heap l w b) x ↔ Kept l w b x.0
  retained_exact x = (from_reach R (KeptRoot l w b) to x, λ h. reach_from R (KeptRoot l w b) back x.0 h x.1)
    where
      R : Object l w b → Type 0
      R y = Rooted l w b y.0 ⊎ ToFinalize (heap l w b) y

      to : (y : Object l w b) → R y → KeptRoot l w b y.0
      to y (inl i) = inl (rooted_in l w b y.0 i)
      to y (inr t) = inr ((finalize_exact y).0 t)

      back : (y : Object l w b) → KeptRoot l w b y.0 → R y
      back y (inl i) = inl (rooted_out l w b y.0 i)
      back y (inr t) = inr ((finalize_exact y).1 t)
