-- Clearing all listed weak tables: of each table that is there and weak the values that die are nil, and nothing else changes.
-- `H` are the words before it. Assumes nothing.
--     cut_shade, dead_same     every handle has its colour, and what is dead stays so
--     mode_same                every table has its mode: the value of a `__mode` that is a string does not die
--     array_cleared, nodes_cleared, table_cleared     one table
--     all_cleared              all that are listed
use Rattle.std.specs.Prelude.{◌≡◌, Bool, ◌⊎◌, ◌≢◌, ltb, length, Some, None, Option}
use Rattle.std.proofs.Math.Path.{refl, ap, subst}
use Rattle.std.proofs.Common.{sym, ◌∙◌, true≢false, inl, inr, ⊎_elim, arith, get_or-set_same, get_or-set_other}
use Rattle.std.proofs.Math.Bool.{true, false, cond}
use mathlib.Core.List.{List}
use Prim.Native.Nat.{ℕ, zero, suc, min, ◌+◌, ◌*◌, ◌≤◌, ◌<◌}
use Rattle.std.proofs.Math.Decide.{ℕ_discrete, dec_lt}
use Rattle.std.proofs.Math.Dec.{eqb}
use Rattle.std.proofs.Math.Seq.{set_out}
use Rattle.base.specs.Ways.{if_le, if_eq, eq_yes, eq_no, le_yes}
use Rattle.base.specs.Loop.{run}
use Rattle.base.specs.Words.{at, put, bounded}
use Rattle.arena.specs.Slots.{named, row, Within}
use Rattle.value.specs.declared.StrRef.{StrRef}
use Rattle.value.specs.declared.TableRef.{TableRef}
use Rattle.value.specs.declared.UdRef.{UdRef}
use Rattle.value.specs.declared.Value.{Value}
use Rattle.value.specs.declared.Value.TheVariants.{Nil, Boolean, Light, Number, Str, Table, Function, Userdata, Thread}
use Rattle.value.specs.Values.{is_nil, value_at, put3, key_equal}
use Rattle.layout.specs.declared.Lay.{Lay}
use Rattle.lists.specs.declared.Item.{Item}
use Rattle.lists.specs.declared.Item.TheVariants as item
use Rattle.lists.specs.Lists.{kind_of, index_of, generation_of, item_in, length_of, place, item_at}
use Rattle.lists.proofs.Laws.{item_three}
use Rattle.record.specs.Fields.{body_at}
use Rattle.record.specs.Strings.{text_of}
use Rattle.record.specs.Tables.{table_meta, array_size, node_number, node_count, node_key, node_value}
use Rattle.record.specs.Userdata.{ud_finalized}
use Rattle.main_record.specs.Main.{mode_name}
use Rattle.laid.specs.Laid.{Laid, string_words}
use Rattle.mark.specs.Ops.{Ref, ref, tab}
use Rattle.mark.specs.Words.{arena_of, shade, colour_w}
use Rattle.modes.specs.declared.Mode.{Mode}
use Rattle.modes.specs.Modes.{look_from, field_at, field_named, field, is_weak, mode_of_text, mode_of_slot, mode_of_string, mode_of_value, weak_mode}
use Rattle.clearing.specs.Strings.{on_table}
use Rattle.clearing.specs.Entries.{is_finalized, is_dead, clear_value, clear_nth, clear_values, clear_array, key_dies, value_dies, node_dies, clear_node, clear_nth_node, clear_nodes, clear_entries, clear_table, clear_listed, clear_all}
use Rattle.link_laws.specs.Agrees.{Agree, table_same, str_same}
use Rattle.link_laws.specs.Reads.{named_below}
use Rattle.mark_laws.specs.Apart.{Apart, Order, order}
use Rattle.mark_laws.specs.Colours.{shade_parts, named_shade}
use Rattle.room_laws.proofs.Walks.{run_along}
use Rattle.atomic_laws.specs.Bodies.{Bodies}
use Rattle.atomic_laws.proofs.Survives.{low_shade}
use Rattle.sweep_laws.specs.Places.{Rows}
use Rattle.weak_laws.specs.Cuts.{body, size, nodes, array_at, key_at, node_at, mode_at, ArrayDies, NodeDies, Same, Zero, Cut, cut_none, same_value, zero_value, cut_put, cut_zero}

-- A key that is equal to a string is a string, and a string is not dead.
string_key : (k : Value) (s : StrRef) → key_equal k (Str s) ≡ true → (r : StrRef) × (k ≡ Str r)
unfolding key_equal if_eq
string_key (Str r) s e = (r, refl)
string_key Nil s e = absurd (true≢false (sym e))
string_key (Boolean x) s e = absurd (true≢false (sym e))
string_key (Light x) s e = absurd (true≢false (sym e))
string_key (Number x) s e = absurd (true≢false (sym e))
string_key (Table r) s e = absurd (true≢false (sym e))
string_key (Function r) s e = absurd (true≢false (sym e))
string_key (Userdata r) s e = absurd (true≢false (sym e))
string_key (Thread r) s e = absurd (true≢false (sym e))

-- A word that is 0 stays so where 0 is written.
zero_put : (p q : ℕ) (w : List ℕ) → at w q ≡ 0 → at (put p 0 w) q ≡ 0
zero_put p q w e = go (ℕ_discrete q p) (dec_lt p (length w))
  where
    go : Dec (q ≡ p) → Dec (p < length w) → at (put p 0 w) q ≡ 0
    go (no d) h = get_or-set_other w p q 0 0 d ∙ e
    go (yes d) (yes h) = ap (λ (x : ℕ). at (put p 0 w) x) d ∙ get_or-set_same w p 0 0 h
    go (yes d) (no h) = ap (λ (x : List ℕ). at x q) (set_out w p 0 (omega (arith, h))) ∙ e

module _ (l : Lay) (b : List ℕ) (old : ℕ) (H : List ℕ) (ok : Laid l) (a : Apart l) (y : Bodies l) (r : Rows l) (long : l.words ≤ length H) where
  abbrev o : Order l
  o = order l ok a

  -- A node whose key is a string and whose value is one does not die.
  string_lives : (m : Mode) (q : ℕ) (s t : StrRef) → value_at H q ≡ Str s → value_at H (q + 3) ≡ Str t → node_dies l old m q H ≡ false
  unfolding node_dies key_dies value_dies is_dead
  string_lives m q s t e d =
      ap (λ (v : Value). cond (cond m.keys (is_dead l old true v H) false) true (cond m.values (is_dead l old false (value_at H (q + 3)) H) false)) e
      ∙ ap (λ (v : Value). cond (cond m.keys false false) true (cond m.values (is_dead l old false v H) false)) d
      ∙ go m.keys m.values
    where
      go : (x z : Bool) → cond (cond x false false) true (cond z false false) ≡ false
      go true true = refl
      go true false = refl
      go false true = refl
      go false false = refl

  module _ (u : List ℕ) (s : Cut l b old H u) where
    low : (q : ℕ) → q < l.boundary → at u q ≡ at H q
    low q h = s.other q (inl (omega (arith, h, o.past_tables)))

    high : (q : ℕ) → l.userdata.bodies ≤ q → at u q ≡ at H q
    high q h = s.other q (inr (omega (arith, h, y.tables)))

    -- Every handle has its colour.
    pub cut_shade : (x : Ref) → colour_w l x u ≡ colour_w l x H
    cut_shade x = go (dec_lt 0 (colour_w l x H)) (dec_lt 0 (colour_w l x u))
      where
        none : (n : ℕ) → (0 < n → ⊥) → n ≡ 0
        none n d = omega (arith, d)

        go : Dec (0 < colour_w l x H) → Dec (0 < colour_w l x u) → colour_w l x u ≡ colour_w l x H
        go (yes h) d = low_shade l ok a H u (λ q f g. low q g) x h
        go (no h) (yes d) = sym (low_shade l ok a u H (λ q f g. sym (low q g)) x d)
        go (no h) (no d) = none (colour_w l x u) d ∙ sym (none (colour_w l x H) h)

    cut_named : (k i g : ℕ) → named (arena_of l k) i g u ≡ named (arena_of l k) i g H
    cut_named k i g = named_shade (arena_of l k) i g u ∙ ap (λ (c : ℕ). if_eq c 0 None (Some i)) (cut_shade (ref k i g)) ∙ sym (named_shade (arena_of l k) i g H)

    -- What is dead stays so.
    finalized_same : (x : UdRef) → is_finalized l x u ≡ is_finalized l x H
    unfolding is_finalized
    finalized_same x =
        ap (λ (c : ℕ). if_eq c 0 false (ud_finalized (body_at l.userdata x.0) u)) (cut_shade (ref 4 x.0 x.1))
        ∙ ap (λ (n : ℕ). if_eq (shade l.userdata x.0 x.1 H) 0 false (ltb 0 n)) (high (body_at l.userdata x.0 + 6) (omega arith))

    pub dead_same : (key : Bool) (v : Value) → is_dead l old key v u ≡ is_dead l old key v H
    unfolding is_dead
    dead_same key Nil = refl
    dead_same key (Boolean x) = refl
    dead_same key (Light x) = refl
    dead_same key (Number x) = refl
    dead_same key (Str x) = refl
    dead_same key (Table x) = ap (λ (c : ℕ). eqb c old) (cut_shade (ref 1 x.0 x.1))
    dead_same key (Function x) = ap (λ (c : ℕ). eqb c old) (cut_shade (ref 2 x.0 x.1))
    dead_same key (Thread x) = ap (λ (c : ℕ). eqb c old) (cut_shade (ref 5 x.0 x.1))
    dead_same key (Userdata x) =
        ap (λ (c : ℕ). if_eq c old true (cond key false (is_finalized l x u))) (cut_shade (ref 4 x.0 x.1))
        ∙ ap (λ (f : Bool). if_eq (shade l.userdata x.0 x.1 H) old true (cond key false f)) (finalized_same x)

    -- The mode that a value gives,
    value_mode : (v : Value) → mode_of_value l v u b ≡ mode_of_value l v H b
    unfolding mode_of_value mode_of_string
    value_mode (Str x) = ap (λ (n : Option ℕ). mode_of_slot l u b n) (cut_named 0 x.0 x.1) ∙ slot (named l.strings x.0 x.1 H) (named_below l.strings x.0 x.1 H)
      where
        slot : (n : Option ℕ) → Within n l.strings.slots → mode_of_slot l u b n ≡ mode_of_slot l H b n
        slot None e = refl
        slot (Some i) h = ap (λ (k : ℕ). mode_of_text (text_of i (bounded k 64) b)) (s.other (body_at l.strings i) (inl (before (i * l.strings.stride) l.strings.stride (l.strings.slots * l.strings.stride) (row l.strings.stride h) (string_words l ok) r.strings)))
          where
            before : (x k z : ℕ) → x + k ≤ z → k ≡ 1 → l.strings.bodies + z ≤ l.tables.bodies → l.strings.bodies + x < l.tables.bodies
            before x k z f e g = omega (arith, f, e, g)
    value_mode Nil = refl
    value_mode (Boolean x) = refl
    value_mode (Light x) = refl
    value_mode (Number x) = refl
    value_mode (Table x) = refl
    value_mode (Function x) = refl
    value_mode (Userdata x) = refl
    value_mode (Thread x) = refl

    -- so the mode by a lookup, although a value may have become nil,
    size_same : (t : ℕ) → t < l.tables.slots → array_size (body l b old H t) u ≡ size l b old H t
    size_same t h = ap (λ (n : ℕ). bounded n 64) (s.head t h (body l b old H t + 2) (omega arith) (omega arith))

    nodes_same : (t : ℕ) → t < l.tables.slots → node_count (body l b old H t) u ≡ nodes l b old H t
    nodes_same t h = ap node_number (s.head t h (body l b old H t + 3) (omega arith) (omega arith))

    key_same : (t j : ℕ) → t < l.tables.slots → j < nodes l b old H t → node_key (body l b old H t) j u ≡ value_at H (key_at l b old H t j)
    key_same t j h f = ap (λ (n : ℕ). value_at u (body l b old H t + 4 + 3 * n + 6 * j)) (size_same t h) ∙ same_value l b old H u (key_at l b old H t j) (s.keys t j h f)

    look_mode : (t : ℕ) → t < l.tables.slots → (x : StrRef) (n j : ℕ) → j + n ≤ nodes l b old H t
        → mode_of_value l (look_from n j (body l b old H t) x u) u b ≡ mode_of_value l (look_from n j (body l b old H t) x H) H b
    unfolding look_from mode_of_value
    look_mode t h x zero j f = value_mode Nil
    look_mode t h x (suc n) j f =
        ap (λ (k : Value). mode_of_value l (cond (key_equal k (Str x)) (node_value p j u) (look_from n (j + 1) p x u)) u b) (key_same t j h (omega (arith, f)))
        ∙ go (key_equal (node_key p j H) (Str x)) refl (look_mode t h x n (j + 1) (omega (arith, f)))
      where
        p : ℕ
        p = body l b old H t

        at_u : node_value p j u ≡ value_at u (node_at l b old H t j)
        at_u = ap (λ (k : ℕ). value_at u (p + 4 + 3 * k + 6 * j + 3)) (size_same t h)

        -- a value that is nil now was no string
        dead : key_equal (node_key p j H) (Str x) ≡ true → NodeDies l b old H t j → (v : Value) → node_value p j H ≡ v → mode_of_value l Nil u b ≡ mode_of_value l v H b
        dead e d (Str z) q = let k = string_key (node_key p j H) x e in absurd (true≢false (sym d.1 ∙ string_lives (mode_at l b old H t) (key_at l b old H t j) k.0 z k.1 q))
        dead e d Nil q = refl
        dead e d (Boolean z) q = refl
        dead e d (Light z) q = refl
        dead e d (Number z) q = refl
        dead e d (Table z) q = refl
        dead e d (Function z) q = refl
        dead e d (Userdata z) q = refl
        dead e d (Thread z) q = refl

        go : (c : Bool) → key_equal (node_key p j H) (Str x) ≡ c → mode_of_value l (look_from n (j + 1) p x u) u b ≡ mode_of_value l (look_from n (j + 1) p x H) H b
            → mode_of_value l (cond c (node_value p j u) (look_from n (j + 1) p x u)) u b ≡ mode_of_value l (cond c (node_value p j H) (look_from n (j + 1) p x H)) H b
        go false e rest = rest
        go true e rest =
            ap (λ (v : Value). mode_of_value l v u b) at_u
            ∙ ⊎_elim (λ z. ap (λ (v : Value). mode_of_value l v u b) (same_value l b old H u (node_at l b old H t j) z) ∙ value_mode (node_value p j H))
            (λ z. ap (λ (v : Value). mode_of_value l v u b) (zero_value l b old H u (node_at l b old H t j) z.0) ∙ dead e z.1 (node_value p j H) refl) (s.node t j h (omega (arith, f)))

    -- and so every table has its mode.
    weak_same : (m : Option TableRef) → weak_mode l m u b ≡ weak_mode l m H b
    unfolding weak_mode field field_named
    weak_same None = refl
    weak_same (Some z) = ap (λ (n : Option StrRef). mode_of_value l (field l z n u) u b) names ∙ by_name (mode_name H)
      where
        header : Agree H u 0 52
        header = record { word = λ q g h. low q (omega (arith, h, o.header, a)) }

        names : mode_name u ≡ mode_name H
        names = str_same header 24 (omega arith) (omega arith)

        by_name : (n : Option StrRef) → mode_of_value l (field l z n u) u b ≡ mode_of_value l (field l z n H) H b
        by_name None = value_mode Nil
        by_name (Some x) = ap (λ (n : Option ℕ). mode_of_value l (field_at l x u n) u b) (cut_named 1 z.0 z.1) ∙ slot (named l.tables z.0 z.1 H) (named_below l.tables z.0 z.1 H)
          where
            slot : (n : Option ℕ) → Within n l.tables.slots → mode_of_value l (field_at l x u n) u b ≡ mode_of_value l (field_at l x H n) H b
            slot None h = value_mode Nil
            slot (Some i) h = ap (λ (n : ℕ). mode_of_value l (look_from n 0 (body l b old H i) x u) u b) (nodes_same i h) ∙ look_mode i h x (nodes l b old H i) 0 (omega arith)

    pub mode_same : (t : ℕ) → t < l.tables.slots → weak_mode l (table_meta (body l b old H t) u) u b ≡ mode_at l b old H t
    mode_same t h =
        let first : Agree H u (body l b old H t) 4 = record { word = λ q f g. s.head t h q f g } in
        ap (λ (m : Option TableRef). weak_mode l m u b) (table_same first (body l b old H t) (omega arith) (omega arith))
        ∙ weak_same (table_meta (body l b old H t) H)

  -- Clearing writes 0 only: what is 0 stays so.
  abbrev Grown : List ℕ → List ℕ → Type 0
  Grown u v = (q : ℕ) → at u q ≡ 0 → at v q ≡ 0

  put3_grown : (c : ℕ) (u : List ℕ) → Grown u (put3 c 0 0 0 u)
  put3_grown c u q e = zero_put (c + 2) q (put (c + 1) 0 (put c 0 u)) (zero_put (c + 1) q (put c 0 u) (zero_put c q u e))

  -- the values that die, of the first n of the array and of the first k nodes, are nil
  abbrev ArrayDone : ℕ → ℕ → List ℕ → Type 0
  ArrayDone t n u = (i : ℕ) → i < n → i < size l b old H t → ArrayDies l b old H t i → Zero l b old H u (array_at l b old H t i)

  abbrev NodesDone : ℕ → ℕ → List ℕ → Type 0
  NodesDone t n u = (j : ℕ) → j < n → j < nodes l b old H t → NodeDies l b old H t j → Zero l b old H u (node_at l b old H t j)

  -- All that die of the table in slot t are nil.
  abbrev pub Done : ℕ → List ℕ → Type 0
  Done t u = ArrayDone t (size l b old H t) u × NodesDone t (nodes l b old H t) u

  array_later : (t n : ℕ) (u v : List ℕ) → Grown u v → ArrayDone t n u → ArrayDone t n v
  array_later t n u v g d i f h k q x z = g q (d i f h k q x z)

  nodes_later : (t n : ℕ) (u v : List ℕ) → Grown u v → NodesDone t n u → NodesDone t n v
  nodes_later t n u v g d j f h k q x z = g q (d j f h k q x z)

  module _ (t : ℕ) (h : t < l.tables.slots) where
    -- One value of the array,
    value_cleared : (i : ℕ) → i < size l b old H t → (mode_at l b old H t).values ≡ true → (u : List ℕ) → Cut l b old H u
        → Cut l b old H (clear_value l old (array_at l b old H t i) u) × Grown u (clear_value l old (array_at l b old H t i) u)
        × (ArrayDies l b old H t i → Zero l b old H (clear_value l old (array_at l b old H t i) u) (array_at l b old H t i))
    unfolding clear_value
    value_cleared i f m u s = go (is_dead l old false (value_at u c) u) refl (s.array t i h f)
      where
        c : ℕ
        c = array_at l b old H t i

        Good : List ℕ → Type 0
        Good v = Cut l b old H v × Grown u v × (ArrayDies l b old H t i → Zero l b old H v (array_at l b old H t i))

        go : (d : Bool) → is_dead l old false (value_at u (array_at l b old H t i)) u ≡ d → Same l b old H u (array_at l b old H t i) ⊎ (Zero l b old H u (array_at l b old H t i) × ArrayDies l b old H t i)
            → Good (cond d (put3 (array_at l b old H t i) 0 0 0 u) u)
        go true e (inl z) =
            let k : ArrayDies l b old H t i = (m, sym (dead_same u s false (value_at H c)) ∙ ap (λ (x : Value). is_dead l old false x u) (sym (same_value l b old H u c z)) ∙ e) in
            (cut_put l b old H ok a long t c h (inl (i, f, refl, k)) u s, put3_grown c u, λ x. cut_zero l b old H ok a long t c h (inl (i, f, refl, k)) u s)
        go true e (inr z) = (cut_put l b old H ok a long t c h (inl (i, f, refl, z.1)) u s, put3_grown c u, λ x. cut_zero l b old H ok a long t c h (inl (i, f, refl, z.1)) u s)
        go false e (inl z) = (s, (λ q x. x), λ x. absurd (true≢false (sym x.1 ∙ sym (dead_same u s false (value_at H c)) ∙ ap (λ (x : Value). is_dead l old false x u) (sym (same_value l b old H u c z)) ∙ e)))
        go false e (inr z) = (s, (λ q x. x), λ x. z.0)

    -- the array,
    array_cleared : (u : List ℕ) → Cut l b old H u → let v = clear_array l old (mode_at l b old H t) (body l b old H t + 4) (size l b old H t) u in
        Cut l b old H v × Grown u v × ArrayDone t (size l b old H t) v
    unfolding clear_array clear_values
    array_cleared u s = go (mode_at l b old H t).values refl
      where
        step : ℕ → List ℕ → List ℕ
        step = clear_nth l old (body l b old H t + 4)

        Q : ℕ → List ℕ → Type 0
        Q k v = Cut l b old H v × Grown u v × ArrayDone t k v

        go : (d : Bool) → (mode_at l b old H t).values ≡ d → Q (size l b old H t) (cond d (run (clear_nth l old (body l b old H t + 4)) 0 (size l b old H t) u) u)
        go false e = (s, (λ q x. x), λ i f g d. absurd (true≢false (sym d.0 ∙ e)))
        go true e = run_along step Q 0 (size l b old H t) u (omega arith) turn (s, (λ q x. x), λ i f g d. absurd (let z : ⊥ = omega (arith, f) in z))
          where
            turn : (k : ℕ) (v : List ℕ) → k < size l b old H t → Q k v → Q (k + 1) (step k v)
            turn k v f (c, g, d) =
                let n = value_cleared k f e v c in
                (n.0, (λ q x. n.1 q (g q x)), λ i p z x. last i p z x (ℕ_discrete i k) n.2 (array_later t k v (step k v) n.1 d))
              where
                last : (i : ℕ) → i < k + 1 → i < size l b old H t → ArrayDies l b old H t i → Dec (i ≡ k)
                    → (ArrayDies l b old H t k → Zero l b old H (step k v) (array_at l b old H t k)) → ArrayDone t k (step k v) → Zero l b old H (step k v) (array_at l b old H t i)
                last i p z x (yes w) new before = subst (λ j. ArrayDies l b old H t j → Zero l b old H (step k v) (array_at l b old H t j)) (sym w) new x
                last i p z x (no w) new before = before i (omega (arith, p, w)) z x

    -- one node,
    node_cleared : (j : ℕ) → j < nodes l b old H t → (u : List ℕ) → Cut l b old H u → let v = clear_node l old (mode_at l b old H t) (key_at l b old H t j) u in
        Cut l b old H v × Grown u v × (NodeDies l b old H t j → Zero l b old H v (node_at l b old H t j))
    unfolding clear_node node_dies key_dies value_dies
    node_cleared j f u s = go (is_nil (value_at u q)) refl (node_dies l old m q u) refl (s.node t j h f)
      where
        q : ℕ
        q = key_at l b old H t j

        m : Mode
        m = mode_at l b old H t

        key : value_at u q ≡ value_at H q
        key = same_value l b old H u q (s.keys t j h f)

        Good : List ℕ → Type 0
        Good v = Cut l b old H v × Grown u v × (NodeDies l b old H t j → Zero l b old H v (node_at l b old H t j))

        -- where the value is as it was, it dies exactly if it did before
        same_dies : Same l b old H u (node_at l b old H t j) → node_dies l old (mode_at l b old H t) (key_at l b old H t j) u ≡ node_dies l old (mode_at l b old H t) (key_at l b old H t j) H
        same_dies z =
            ap (λ (v : Value). cond (cond m.keys (is_dead l old true v u) false) true (cond m.values (is_dead l old false (value_at u (q + 3)) u) false)) key
            ∙ ap (λ (x : Bool). cond (cond m.keys x false) true (cond m.values (is_dead l old false (value_at u (q + 3)) u) false)) (dead_same u s true (value_at H q))
            ∙ ap (λ (v : Value). cond (cond m.keys (is_dead l old true (value_at H q) H) false) true (cond m.values (is_dead l old false v u) false)) (same_value l b old H u (q + 3) z)
            ∙ ap (λ (x : Bool). cond (cond m.keys (is_dead l old true (value_at H q) H) false) true (cond m.values x false)) (dead_same u s false (value_at H (q + 3)))

        put : NodeDies l b old H t j → Good (put3 (key_at l b old H t j + 3) 0 0 0 u)
        put k = (cut_put l b old H ok a long t (q + 3) h (inr (j, f, refl, k)) u s, put3_grown (q + 3) u, λ x. cut_zero l b old H ok a long t (q + 3) h (inr (j, f, refl, k)) u s)

        go : (x : Bool) → is_nil (value_at u (key_at l b old H t j)) ≡ x → (d : Bool) → node_dies l old (mode_at l b old H t) (key_at l b old H t j) u ≡ d
            → Same l b old H u (node_at l b old H t j) ⊎ (Zero l b old H u (node_at l b old H t j) × NodeDies l b old H t j)
            → Good (cond x u (cond d (put3 (key_at l b old H t j + 3) 0 0 0 u) u))
        go true n d e z = (s, (λ q x. x), λ x. absurd (true≢false (sym n ∙ ap is_nil key ∙ x.0)))
        go false n true e (inr z) = put z.1
        go false n true e (inl z) = put (sym (ap is_nil key) ∙ n, sym (same_dies z) ∙ e)
        go false n false e (inr z) = (s, (λ q x. x), λ x. z.0)
        go false n false e (inl z) = (s, (λ q x. x), λ x. absurd (true≢false (sym x.1 ∙ sym (same_dies z) ∙ e)))

    -- the nodes,
    nodes_cleared : (u : List ℕ) → Cut l b old H u → let v = clear_nodes l old (mode_at l b old H t) (body l b old H t + 4 + 3 * size l b old H t) (nodes l b old H t) u in
        Cut l b old H v × Grown u v × NodesDone t (nodes l b old H t) v
    unfolding clear_nodes
    nodes_cleared u s = run_along step Q 0 (nodes l b old H t) u (omega arith) turn (s, (λ q x. x), λ j f g d. absurd (let z : ⊥ = omega (arith, f) in z))
      where
        step : ℕ → List ℕ → List ℕ
        step = clear_nth_node l old (mode_at l b old H t) (body l b old H t + 4 + 3 * size l b old H t)

        Q : ℕ → List ℕ → Type 0
        Q k v = Cut l b old H v × Grown u v × NodesDone t k v

        turn : (k : ℕ) (v : List ℕ) → k < nodes l b old H t → Q k v → Q (k + 1) (step k v)
        turn k v f (c, g, d) =
            let n = node_cleared k f v c in
            (n.0, (λ q x. n.1 q (g q x)), λ j p z x. last j p z x (ℕ_discrete j k) n.2 (nodes_later t k v (step k v) n.1 d))
          where
            last : (j : ℕ) → j < k + 1 → j < nodes l b old H t → NodeDies l b old H t j → Dec (j ≡ k)
                → (NodeDies l b old H t k → Zero l b old H (step k v) (node_at l b old H t k)) → NodesDone t k (step k v) → Zero l b old H (step k v) (node_at l b old H t j)
            last j p z x (yes w) new before = subst (λ i. NodeDies l b old H t i → Zero l b old H (step k v) (node_at l b old H t i)) (sym w) new x
            last j p z x (no w) new before = before j (omega (arith, p, w)) z x

    -- and the table.
    entries_cleared : (u : List ℕ) → Cut l b old H u → let v = clear_entries l old (mode_at l b old H t) (body l b old H t) u in Cut l b old H v × Grown u v × Done t v
    unfolding clear_entries
    entries_cleared u s =
        subst Good (ap (λ (n : ℕ). clear_nodes l old m (p + 4 + 3 * n) (nodes l b old H t) (clear_array l old m (p + 4) n u)) (sym (size_same u s t h)) ∙ ap (λ (k : ℕ). clear_nodes l old m (p + 4 + 3 * array_size p u) k (clear_array l old m (p + 4) (array_size p u) u)) (sym (nodes_same u s t h)))
        (let x = array_cleared u s in let z = nodes_cleared (clear_array l old m (p + 4) (size l b old H t) u) x.0 in
        (z.0, (λ q e. z.1 q (x.1 q e)), (array_later t (size l b old H t) (clear_array l old m (p + 4) (size l b old H t) u) (clear_nodes l old m (p + 4 + 3 * size l b old H t) (nodes l b old H t) (clear_array l old m (p + 4) (size l b old H t) u)) z.1 x.2, z.2)))
      where
        p : ℕ
        p = body l b old H t

        m : Mode
        m = mode_at l b old H t

        Good : List ℕ → Type 0
        Good v = Cut l b old H v × Grown u v × Done t v

  -- A table that is listed: it is there, and weak.
  abbrev pub Listed : Item → ℕ → Type 0
  Listed x t = (z : TableRef) × (x ≡ item.Table z) × (z.0 ≡ t) × (1 ≤ colour_w l (tab z) H) × (is_weak (mode_at l b old H t) ≡ true)

  table_cleared : (z : TableRef) (u : List ℕ) → Cut l b old H u
      → Cut l b old H (clear_table l b old z u) × Grown u (clear_table l b old z u) × (1 ≤ colour_w l (tab z) H → is_weak (mode_at l b old H z.0) ≡ true → Done z.0 (clear_table l b old z u))
  unfolding clear_table
  table_cleared z u s =
      subst Good (ap (λ (c : ℕ). if_eq c 0 u (cond (is_weak (weak_mode l (table_meta p u) u b)) (clear_entries l old (weak_mode l (table_meta p u) u b) p u) u)) (sym (cut_shade u s (tab z)))) (go (ℕ_discrete (colour_w l (tab z) H) 0))
    where
      p : ℕ
      p = body_at l.tables z.0

      m : Mode
      m = weak_mode l (table_meta p u) u b

      Good : List ℕ → Type 0
      Good v = Cut l b old H v × Grown u v × (1 ≤ colour_w l (tab z) H → is_weak (mode_at l b old H z.0) ≡ true → Done z.0 v)

      there : colour_w l (tab z) H ≢ 0 → z.0 < l.tables.slots
      there d = let q = shade_parts l.tables z.0 z.1 H (omega (arith, d)) in omega (arith, q.0)

      weak : z.0 < l.tables.slots → (c : Bool) → is_weak (mode_at l b old H z.0) ≡ c → Good (cond c (clear_entries l old (mode_at l b old H z.0) p u) u)
      weak h true e = let x = entries_cleared z.0 h u s in (x.0, x.1, λ k n. x.2)
      weak h false e = (s, (λ q x. x), λ k n. absurd (true≢false (sym n ∙ e)))

      go : Dec (colour_w l (tab z) H ≡ 0) → Good (if_eq (colour_w l (tab z) H) 0 u (cond (is_weak (weak_mode l (table_meta (body_at l.tables z.0) u) u b)) (clear_entries l old (weak_mode l (table_meta (body_at l.tables z.0) u) u b) (body_at l.tables z.0) u) u))
      go (yes e) = subst Good (eq_yes (colour_w l (tab z) H) 0 u _ u e refl) (s, (λ q x. x), λ k n. absurd (let y : ⊥ = omega (arith, k, e) in y))
      go (no d) =
          subst Good (eq_no (colour_w l (tab z) H) 0 u _ _ d refl)
          (subst (λ (x : Mode). Good (cond (is_weak x) (clear_entries l old x p u) u)) (sym (mode_same u s z.0 (there d))) (weak (there d) (is_weak (mode_at l b old H z.0)) refl))

  other : {n m : ℕ} → n ≡ m → n ≢ m → ⊥
  other e d = d e

  item_cleared : (x : Item) (u : List ℕ) → Cut l b old H u
      → Cut l b old H (on_table (clear_table l b old) x u) × Grown u (on_table (clear_table l b old) x u) × ((t : ℕ) → Listed x t → Done t (on_table (clear_table l b old) x u))
  unfolding on_table
  item_cleared (item.Table z) u s =
      let c = table_cleared z u s in (
        c.0,
        c.1,
        λ t (x, e, f, k, n).
            let same : z.0 ≡ t = ap index_of e ∙ f in
            subst (λ i. Done i (clear_table l b old z u)) same
            (c.2 (subst (λ (i : Item). 1 ≤ shade l.tables (index_of i) (generation_of i) H) (sym e) k) (subst (λ i. is_weak (mode_at l b old H i) ≡ true) (sym same) n)),
      )
  item_cleared (item.Function z) u s = (s, (λ q x. x), λ t n. absurd (other (ap kind_of n.1) (omega arith)))
  item_cleared (item.Userdata z) u s = (s, (λ q x. x), λ t n. absurd (other (ap kind_of n.1) (omega arith)))
  item_cleared (item.Thread z) u s = (s, (λ q x. x), λ t n. absurd (other (ap kind_of n.1) (omega arith)))
  item_cleared item.Main u s = (s, (λ q x. x), λ t n. absurd (other (ap kind_of n.1) (omega arith)))
  item_cleared item.Unknown u s = (s, (λ q x. x), λ t n. absurd (other (ap kind_of n.1) (omega arith)))

  -- the list is as it was
  same_item : (k : ℕ) (u : List ℕ) → Cut l b old H u → item_at l.weak k u ≡ item_at l.weak k H
  unfolding item_at
  same_item k u s = go (dec_lt k l.weak.room)
    where
      count : length_of l.weak u ≡ length_of l.weak H
      count = ap (λ (n : ℕ). min n l.weak.room) (low u s l.weak.count (omega (arith, o.weak, o.header, a)))

      go : Dec (k < l.weak.room) → if_le (length_of l.weak u) k item.Unknown (item_in u (place l.weak k)) ≡ if_le (length_of l.weak H) k item.Unknown (item_in H (place l.weak k))
      go (yes h) =
          ap (λ (n : ℕ). if_le n k item.Unknown (item_in u (place l.weak k))) count
          ∙ ap (λ (x : Item). if_le (length_of l.weak H) k item.Unknown x)
          (item_three (place l.weak k) u H (low u s (place l.weak k) (omega (arith, h, a))) (low u s (place l.weak k + 1) (omega (arith, h, a))) (low u s (place l.weak k + 2) (omega (arith, h, a))))
      go (no h) = sym (le_yes (length_of l.weak u) k item.Unknown _ item.Unknown (few (at u l.weak.count) l.weak.room h) refl) ∙ le_yes (length_of l.weak H) k item.Unknown _ item.Unknown (few (at H l.weak.count) l.weak.room h) refl
        where
          few : (n m : ℕ) → (k < m → ⊥) → min n m ≤ k
          few n m d = omega (arith, d)

  -- Clearing all that are listed.
  pub all_cleared : let v = clear_all l b old H in Cut l b old H v × ((k : ℕ) → k < length_of l.weak H → (t : ℕ) → Listed (item_at l.weak k H) t → Done t v)
  unfolding clear_all clear_listed
  all_cleared =
      let c = run_along step Q 0 (length_of l.weak H) H (omega arith) turn (cut_none l b old H, λ k f t n. absurd (let z : ⊥ = omega (arith, f) in z)) in
      (c.0, c.1)
    where
      step : ℕ → List ℕ → List ℕ
      step = clear_listed l b old

      Q : ℕ → List ℕ → Type 0
      Q n u = Cut l b old H u × ((k : ℕ) → k < n → (t : ℕ) → Listed (item_at l.weak k H) t → Done t u)

      turn : (k : ℕ) (u : List ℕ) → k < length_of l.weak H → Q k u → Q (k + 1) (step k u)
      turn k u f (s, d) =
          subst (λ (x : Item). Q (k + 1) (on_table (clear_table l b old) x u)) (sym (same_item k u s))
          (let c = item_cleared (item_at l.weak k H) u s in (c.0, λ j g t n. last j g t n (ℕ_discrete j k) c.1 c.2))
        where
          v : List ℕ
          v = on_table (clear_table l b old) (item_at l.weak k H) u

          last : (j : ℕ) → j < k + 1 → (t : ℕ) → Listed (item_at l.weak j H) t → Dec (j ≡ k) → Grown u (on_table (clear_table l b old) (item_at l.weak k H) u)
              → ((t : ℕ) → Listed (item_at l.weak k H) t → Done t (on_table (clear_table l b old) (item_at l.weak k H) u)) → Done t (on_table (clear_table l b old) (item_at l.weak k H) u)
          last j g t n (yes e) grow new = new t (subst (λ i. Listed (item_at l.weak i H) t) e n)
          last j g t n (no e) grow new = let x = d j (omega (arith, g, e)) t n in (array_later t (size l b old H t) u v grow x.0, nodes_later t (nodes l b old H t) u v grow x.1)
