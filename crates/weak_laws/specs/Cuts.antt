-- What clearing does to tables: the values that die become nil, and nothing else changes. `H` are the words before it, `old` is the
-- old white. Assumes nothing.
--     ArrayDies, NodeDies     an array value, and a node's, that dies: read from the words before
--     Cut                     words in which some of these are nil, and nothing else differs
--     cut_put                 one more becomes nil
use Rattle.std.specs.Prelude.{◌≡◌, Bool, true, false, List, ◌⊎◌, ◌≢◌, ℕ, ◌+◌, ◌*◌, ◌≤◌, ◌<◌, length}
use Rattle.std.proofs.Math.Path.{refl, ap}
use Rattle.std.proofs.Common.{sym, subst, ◌∙◌, inl, inr, ⊎_elim, arith}
use Rattle.std.proofs.Math.Decide.{ℕ_discrete, dec_lt}
use Rattle.base.specs.Ways.{if_eq}
use Rattle.base.specs.Words.{at}
use Rattle.arena.specs.Slots.{row}
use Rattle.value.specs.declared.Value.{Value}
use Rattle.value.specs.declared.Value.TheVariants.{Nil}
use Rattle.value.specs.Values.{is_nil, value_of, value_at, put3}
use Rattle.value.specs.Laws.{Outside, value_three, put3_long, put3_kept, put3_first, put3_second, put3_third}
use Rattle.layout.specs.declared.Lay.{Lay}
use Rattle.record.specs.Fields.{body_at}
use Rattle.record.specs.Tables.{table_meta, array_size, node_count}
use Rattle.laid.specs.Laid.{Laid, table_words, tables_room}
use Rattle.modes.specs.declared.Mode.{Mode}
use Rattle.modes.specs.Modes.{weak_mode}
use Rattle.clearing.specs.Entries.{is_dead, node_dies}
use Rattle.link_laws.specs.Agrees.{bounded_most, nodes_most}
use Rattle.mark_laws.specs.Apart.{Apart, Order, order}
use Rattle.atomic_laws.specs.Bodies.{body_end, body_next}

module _ (l : Lay) (b : List ℕ) (old : ℕ) (H : List ℕ) where
  -- the body of the table in slot t, and how many values and nodes it has
  abbrev pub body : ℕ → ℕ
  body t = body_at l.tables t

  abbrev pub size : ℕ → ℕ
  size t = array_size (body_at l.tables t) H

  abbrev pub nodes : ℕ → ℕ
  nodes t = node_count (body_at l.tables t) H

  -- the places of its values, of its keys and of its nodes' values
  abbrev pub array_at : ℕ → ℕ → ℕ
  array_at t i = body_at l.tables t + 4 + 3 * i

  abbrev pub key_at : ℕ → ℕ → ℕ
  key_at t j = body_at l.tables t + 4 + 3 * array_size (body_at l.tables t) H + 6 * j

  abbrev pub node_at : ℕ → ℕ → ℕ
  node_at t j = body_at l.tables t + 4 + 3 * array_size (body_at l.tables t) H + 6 * j + 3

  abbrev pub mode_at : ℕ → Mode
  mode_at t = weak_mode l (table_meta (body_at l.tables t) H) H b

  -- For weak values a dead array value dies; a node with non-nil key dies by its key or its value.
  abbrev pub ArrayDies : ℕ → ℕ → Type 0
  ArrayDies t i = ((mode_at t).values ≡ true) × (is_dead l old false (value_at H (array_at t i)) H ≡ true)

  abbrev pub NodeDies : ℕ → ℕ → Type 0
  NodeDies t j = (is_nil (value_at H (key_at t j)) ≡ false) × (node_dies l old (mode_at t) (key_at t j) H ≡ true)

  -- three words as they were, and three words 0
  abbrev pub Same : List ℕ → ℕ → Type 0
  Same u c = (q : ℕ) → c ≤ q → q < c + 3 → at u q ≡ at H q

  abbrev pub Zero : List ℕ → ℕ → Type 0
  Zero u c = (q : ℕ) → c ≤ q → q < c + 3 → at u q ≡ 0

  -- Words in which some of the values that die are nil, and nothing else differs.
  pub record Cut (u : List ℕ) : Type 0 where
    pub long : length u ≡ length H
    pub other : (q : ℕ) → Outside l.tables.bodies (580 * l.tables.slots) q → at u q ≡ at H q
    pub head : (t : ℕ) → t < l.tables.slots → (q : ℕ) → body t ≤ q → q < body t + 4 → at u q ≡ at H q
    pub keys : (t j : ℕ) → t < l.tables.slots → j < nodes t → Same u (key_at t j)
    pub array : (t i : ℕ) → t < l.tables.slots → i < size t → Same u (array_at t i) ⊎ (Zero u (array_at t i) × ArrayDies t i)
    pub node : (t j : ℕ) → t < l.tables.slots → j < nodes t → Same u (node_at t j) ⊎ (Zero u (node_at t j) × NodeDies t j)

  pub cut_none : Cut H
  cut_none = record {
    long = refl;
    other = λ q f. refl;
    head = λ t h q f g. refl;
    keys = λ t j h f q g k. refl;
    array = λ t i h f. inl (λ q g k. refl);
    node = λ t j h f. inl (λ q g k. refl);
  }

  -- the value in three words as they were, and in three that are 0
  pub same_value : (u : List ℕ) (c : ℕ) → Same u c → value_at u c ≡ value_at H c
  same_value u c s = value_three c u H (s c (omega arith) (omega arith)) (s (c + 1) (omega arith) (omega arith)) (s (c + 2) (omega arith) (omega arith))

  pub zero_value : (u : List ℕ) (c : ℕ) → Zero u c → value_at u c ≡ Nil
  unfolding value_of if_eq
  zero_value u c s = ap (λ (n : ℕ). value_of n (at u (c + 1)) (at u (c + 2))) (s c (omega arith) (omega arith)) ∙ nil
    where
      nil : value_of 0 (at u (c + 1)) (at u (c + 2)) ≡ Nil
      nil = refl

  module _ (ok : Laid l) (a : Apart l) (long : l.words ≤ length H) where
    abbrev o : Order l
    o = order l ok a

    -- a value's place, of the array or of a node, that dies
    abbrev pub Place : ℕ → ℕ → Type 0
    Place t c = ((i : ℕ) × (i < size t) × (c ≡ array_at t i) × ArrayDies t i) ⊎ ((j : ℕ) × (j < nodes t) × (c ≡ node_at t j) × NodeDies t j)

    size_most : (t : ℕ) → size t ≤ 64
    size_most t = bounded_most (at H (body_at l.tables t + 2)) 64

    nodes_few : (t : ℕ) → nodes t ≤ 64
    nodes_few t = nodes_most (at H (body_at l.tables t + 3))

    -- it lies within the body
    place_in : (t c : ℕ) → Place t c → (body t + 4 ≤ c) × (c + 3 ≤ body t + 580)
    place_in t c (inl (i, f, e, d)) = (omega (arith, e), omega (arith, e, f, size_most t))
    place_in t c (inr (j, f, e, d)) = (omega (arith, e), omega (arith, e, f, size_most t, nodes_few t))

    body_in_lem : (t : ℕ) → t < l.tables.slots → (l.tables.bodies ≤ body t) × (body t + 580 ≤ l.tables.bodies + 580 * l.tables.slots)
    body_in_lem t h = (omega arith, body_end l.tables 580 t (table_words l ok) h)

    -- What lies in another table's body is apart.
    apart_tables : (t t' c q : ℕ) → t ≢ t' → body t ≤ c → c + 3 ≤ body t + 580 → body t' ≤ q → q < body t' + 580 → Outside c 3 q
    apart_tables t t' c q d f g h k = go (dec_lt t t')
      where
        go : Dec (t < t') → Outside c 3 q
        go (yes z) = inr (omega (arith, g, h, body_next l.tables 580 t t' (table_words l ok) z))
        go (no z) = inl (omega (arith, f, k, body_next l.tables 580 t' t (table_words l ok) (omega (arith, z, d))))

    -- One more becomes nil.
    module _ (t c : ℕ) (h : t < l.tables.slots) (p : Place t c) (u : List ℕ) (s : Cut u) where
      abbrev v : List ℕ
      v = put3 c 0 0 0 u

      inside : (body t + 4 ≤ c) × (c + 3 ≤ body t + 580)
      inside = place_in t c p

      off : (q : ℕ) → Outside c 3 q → at (put3 c 0 0 0 u) q ≡ at u q
      off q f = put3_kept c 0 0 0 u q f

      fits : c + 2 < length u
      fits = sums (t * l.tables.stride) l.tables.stride (l.tables.slots * l.tables.stride) inside.1 (row l.tables.stride h) (table_words l ok) (tables_room l H ok long).fits s.long
        where
          sums : (x k z : ℕ) → c + 3 ≤ l.tables.bodies + x + 580 → x + k ≤ z → k ≡ 580 → l.tables.bodies + z ≤ length H → length u ≡ length H → c + 2 < length u
          sums x k z f g e n m = omega (arith, f, g, e, n, m)

      zeroed : Zero (put3 c 0 0 0 u) c
      zeroed q f g = go (ℕ_discrete q c) (ℕ_discrete q (c + 1))
        where
          go : Dec (q ≡ c) → Dec (q ≡ c + 1) → at (put3 c 0 0 0 u) q ≡ 0
          go (yes e) d = ap (λ (x : ℕ). at (put3 c 0 0 0 u) x) e ∙ put3_first c 0 0 0 u fits
          go (no e) (yes d) = ap (λ (x : ℕ). at (put3 c 0 0 0 u) x) d ∙ put3_second c 0 0 0 u fits
          go (no e) (no d) =
              let z : q ≡ c + 2 = omega (arith, f, g, e, d) in
              ap (λ (x : ℕ). at (put3 c 0 0 0 u) x) z ∙ put3_third c 0 0 0 u fits

      -- the words of the same table that are not this place
      head_off : (q : ℕ) → q < body t + 4 → Outside c 3 q
      head_off q g = inl (omega (arith, g, inside.0))

      key_off : Place t c → (j q : ℕ) → j < nodes t → key_at t j ≤ q → q < key_at t j + 3 → Outside c 3 q
      key_off (inl (i, f, e, d)) j q n g k = inr (omega (arith, e, f, g))
      key_off (inr (i, f, e, d)) j q n g k = go (dec_lt i j)
        where
          go : Dec (i < j) → Outside c 3 q
          go (yes z) = inr (omega (arith, e, z, g))
          go (no z) = inl (omega (arith, e, z, k))

      array_off : Place t c → (i q : ℕ) → c ≢ array_at t i → i < size t → array_at t i ≤ q → q < array_at t i + 3 → Outside c 3 q
      array_off (inl (j, f, e, d)) i q n m g k = go (dec_lt j i)
        where
          go : Dec (j < i) → Outside c 3 q
          go (yes z) = inr (omega (arith, e, z, g))
          go (no z) = inl (omega (arith, e, z, k, n))
      array_off (inr (j, f, e, d)) i q n m g k = inl (omega (arith, e, m, k))

      node_off : Place t c → (j q : ℕ) → c ≢ node_at t j → node_at t j ≤ q → q < node_at t j + 3 → Outside c 3 q
      node_off (inl (i, f, e, d)) j q n g k = inr (omega (arith, e, f, g))
      node_off (inr (i, f, e, d)) j q n g k = go (dec_lt i j)
        where
          go : Dec (i < j) → Outside c 3 q
          go (yes z) = inr (omega (arith, e, z, g))
          go (no z) = inl (omega (arith, e, z, k, n))

      -- which of the two it is
      array_dies : Place t c → (i : ℕ) → i < size t → c ≡ array_at t i → ArrayDies t i
      array_dies (inl (j, f, e, d)) i g z = let q : j ≡ i = omega (arith, e, z) in subst (λ x. ArrayDies t x) q d
      array_dies (inr (j, f, e, d)) i g z = absurd (let q : ⊥ = omega (arith, e, z, g) in q)

      node_dies_lem : Place t c → (j : ℕ) → c ≡ node_at t j → NodeDies t j
      node_dies_lem (inr (i, f, e, d)) j z = let q : i ≡ j = omega (arith, e, z) in subst (λ x. NodeDies t x) q d
      node_dies_lem (inl (i, f, e, d)) j z = absurd (let q : ⊥ = omega (arith, e, z, f) in q)

      kept : {D : Type 0} (x : ℕ) → ((q : ℕ) → x ≤ q → q < x + 3 → Outside c 3 q) → Same u x ⊎ (Zero u x × D) → Same (put3 c 0 0 0 u) x ⊎ (Zero (put3 c 0 0 0 u) x × D)
      kept x f (inl z) = inl (λ q g k. off q (f q g k) ∙ z q g k)
      kept x f (inr z) = inr ((λ q g k. off q (f q g k) ∙ z.0 q g k), z.1)

      pub cut_put : Cut (put3 c 0 0 0 u)
      cut_put = record {
        long = put3_long c 0 0 0 u ∙ s.long;
        other = λ q f. off q (outer q f) ∙ s.other q f;
        head = λ t' k q f g. off q (in_head t' k q f g (ℕ_discrete t t')) ∙ s.head t' k q f g;
        keys = λ t' j k n q f g. off q (in_keys t' j n q f g (ℕ_discrete t t')) ∙ s.keys t' j k n q f g;
        array = λ t' i k n. in_array t' i k n (ℕ_discrete t t') (ℕ_discrete c (array_at t' i));
        node = λ t' j k n. in_node t' j k n (ℕ_discrete t t') (ℕ_discrete c (node_at t' j));
      }
        where
          outer : (q : ℕ) → Outside l.tables.bodies (580 * l.tables.slots) q → Outside c 3 q
          outer q (inl f) = inl (omega (arith, f, inside.0, (body_in_lem t h).0))
          outer q (inr f) = inr (omega (arith, f, inside.1, (body_in_lem t h).1))

          in_head : (t' : ℕ) → t' < l.tables.slots → (q : ℕ) → body t' ≤ q → q < body t' + 4 → Dec (t ≡ t') → Outside c 3 q
          in_head t' k q f g (yes e) = head_off q (subst (λ x. q < body x + 4) (sym e) g)
          in_head t' k q f g (no d) = apart_tables t t' c q d (omega (arith, inside.0)) inside.1 f (omega (arith, g))

          in_keys : (t' j : ℕ) → j < nodes t' → (q : ℕ) → key_at t' j ≤ q → q < key_at t' j + 3 → Dec (t ≡ t') → Outside c 3 q
          in_keys t' j n q f g (yes e) = key_off p j q (subst (λ x. j < nodes x) (sym e) n) (subst (λ x. key_at x j ≤ q) (sym e) f) (subst (λ x. q < key_at x j + 3) (sym e) g)
          in_keys t' j n q f g (no d) = apart_tables t t' c q d (omega (arith, inside.0)) inside.1 (omega (arith, f)) (omega (arith, g, n, size_most t', nodes_few t'))

          in_array : (t' i : ℕ) → t' < l.tables.slots → i < size t' → Dec (t ≡ t') → Dec (c ≡ array_at t' i) → Same (put3 c 0 0 0 u) (array_at t' i) ⊎ (Zero (put3 c 0 0 0 u) (array_at t' i) × ArrayDies t' i)
          in_array t' i k n (no d) z = kept (array_at t' i) (λ q f g. apart_tables t t' c q d (omega (arith, inside.0)) inside.1 (omega (arith, f)) (omega (arith, g, n, size_most t'))) (s.array t' i k n)
          in_array t' i k n (yes e) (yes z) =
              inr (subst (λ x. Zero (put3 c 0 0 0 u) x) z zeroed, subst (λ x. ArrayDies x i) e (array_dies p i (subst (λ x. i < size x) (sym e) n) (z ∙ ap (λ (x : ℕ). array_at x i) (sym e))))
          in_array t' i k n (yes e) (no z) =
              kept (array_at t' i)
              (λ q f g. array_off p i q (λ m. z (m ∙ ap (λ (x : ℕ). array_at x i) e)) (subst (λ x. i < size x) (sym e) n) (subst (λ x. array_at x i ≤ q) (sym e) f) (subst (λ x. q < array_at x i + 3) (sym e) g))
              (s.array t' i k n)

          in_node : (t' j : ℕ) → t' < l.tables.slots → j < nodes t' → Dec (t ≡ t') → Dec (c ≡ node_at t' j) → Same (put3 c 0 0 0 u) (node_at t' j) ⊎ (Zero (put3 c 0 0 0 u) (node_at t' j) × NodeDies t' j)
          in_node t' j k n (no d) z = kept (node_at t' j) (λ q f g. apart_tables t t' c q d (omega (arith, inside.0)) inside.1 (omega (arith, f)) (omega (arith, g, n, size_most t', nodes_few t'))) (s.node t' j k n)
          in_node t' j k n (yes e) (yes z) = inr (subst (λ x. Zero (put3 c 0 0 0 u) x) z zeroed, subst (λ x. NodeDies x j) e (node_dies_lem p j (z ∙ ap (λ (x : ℕ). node_at x j) (sym e))))
          in_node t' j k n (yes e) (no z) =
              kept (node_at t' j) (λ q f g. node_off p j q (λ m. z (m ∙ ap (λ (x : ℕ). node_at x j) e)) (subst (λ x. node_at x j ≤ q) (sym e) f) (subst (λ x. q < node_at x j + 3) (sym e) g)) (s.node t' j k n)

      -- and there it is nil.
      pub cut_zero : Zero (put3 c 0 0 0 u) c
      cut_zero = zeroed
