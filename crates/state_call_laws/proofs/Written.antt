-- What stands in the words when a prototype was made: its nested numbers are below its own and have it as theirs, and all else is as
-- it was. Assumes nothing.
--     nest_all              the loop that nests
--     nested_now            nested numbers fall, and each has one parent
--     below, near           the words that the state looks at
use Rattle.std.specs.Prelude.{◌≡◌, ◌⊎◌, ◌≢◌}
use Rattle.std.proofs.Math.Path.{refl, sym, ap}
use Rattle.std.proofs.Common.{◌∙◌, ⊎_elim, arith, get_or-set_same, eq-eqb}
use Rattle.std.proofs.Math.Bool.{true, false, not, true≢false}
use Rattle.std.proofs.Math.Logic.{inl, inr}
use mathlib.Core.List.{List}
use Prim.Native.Nat.{ℕ, ◌+◌, ◌*◌, ◌/◌, ◌≤◌, ◌<◌}
use Rattle.std.proofs.Math.Decide.{ℕ_discrete, dec_lt}
use Rattle.std.proofs.Math.ListN.{length, length-set}
use Rattle.std.proofs.Math.Seq.{get_or-set_other}
use Rattle.base.specs.Ways.{lt_no}
use Rattle.base.specs.Loop.{run_keeps}
use Rattle.base.specs.Words.{at, put, clear}
use Rattle.base.specs.Heap.{heap}
use Rattle.arena_laws.specs.Words.{clear_length, clear_out}
use Rattle.value.specs.declared.Value.{Value}
use Rattle.value.specs.Values.{tag_of, low_of, high_of, value_at}
use Rattle.value.specs.Laws.{put3_kept, put3_long}
use Rattle.layout.specs.declared.Lay.{Lay}
use Rattle.layout.specs.Places.{PROTOTYPES, PROTO_WORDS}
use Rattle.main_record.specs.Prototypes.{protos_used, proto_at, proto_parent, proto_child}
use Rattle.laid.specs.Laid.{Laid, parts_room}
use Rattle.making.specs.Making.{put_one, put_values}
use Rattle.making.specs.Turns.{each_holds}
use Rattle.make_protos.specs.Making.{differs, is_first, are_nestable, nest_one, put_nested}
use Rattle.mark_laws.specs.Apart.{Apart, Order, order}
use Rattle.room_laws.proofs.Walks.{run_along}
use Rattle.sweep_laws.specs.Places.{Rows}
use Rattle.state_laws.specs.State.{Nested, State}
use Rattle.state_laws.specs.Plains.{Looked, sizes, marks, cells, Nearly}
use Rattle.state_call_laws.specs.Protos.{Nesting}
use Rattle.state_call_laws.proofs.Nests.{nest_made, nest_rest, nest_free}

-- up to 16 values of three words are up to 48 words
third : (n : ℕ) → n ≤ 48 → 3 * (n / 3) ≤ 48
third n h = omega (arith, h)

-- What the test says: it is made, has no parent and is named once.
module _ (l : Lay) (w s : List ℕ) (p : are_nestable l w s ≡ true) where
  nest_first : (j k : ℕ) → j < k → k < length s → at s j ≢ at s k
  unfolding is_first differs
  nest_first j k f h e =
      true≢false (sym (each_holds (differs s k) k first j f) ∙ ap not (eq-eqb (at s j) (at s k) e))
    where
      first : is_first s k ≡ true
      first = lt_no 0 (proto_parent l (at s k) w) false (is_first s k) _ (omega (arith, nest_free l w s p k h)) refl ∙ nest_rest l w s p k h

  nest_once : (i j : ℕ) → i < length s → j < length s → at s i ≡ at s j → i ≡ j
  nest_once i j f g e = go (dec_lt i j) (dec_lt j i)
    where
      go : Dec (i < j) → Dec (j < i) → i ≡ j
      go (yes x) y = absurd (nest_first i j x g e)
      go (no x) (yes y) = absurd (nest_first j i y f (sym e))
      go (no x) (no y) = omega (arith, x, y)

module _ (l : Lay) (n : ℕ) (s w : List ℕ) (room : proto_at l n + 59 ≤ length w) (few : length s ≤ 8) (low : (k : ℕ) → k < length s → at s k < n) where
  nest_turn : (k : ℕ) (u : List ℕ) → k < length s → Nesting l n s w k u → Nesting l n s w (k + 1) (nest_one l n s k u)
  unfolding nest_one
  nest_turn k u h m = record {
    long = length-set v A (n + 1) ∙ length-set u B (at s k) ∙ m.long;
    other = λ x f. get_or-set_other v A x (n + 1) 0 (f k h).1 ∙ get_or-set_other u B x (at s k) 0 (f k h).0 ∙ m.other x f;
    child = λ j f. get_or-set_other v A (proto_at l n + 51 + j) (n + 1) 0 (λ e. omega (arith, e, low k h)) ∙ kid j f (ℕ_discrete j k);
    parent = λ j f. up j f (ℕ_discrete (proto_at l (at s j) + 2) A) (ℕ_discrete j k);
  }
    where
      A : ℕ
      A = proto_at l (at s k) + 2

      B : ℕ
      B = proto_at l n + 51 + k

      v : List ℕ
      v = put (proto_at l n + 51 + k) (at s k) u

      kid : (j : ℕ) → j < k + 1 → Dec (j ≡ k) → at (put (proto_at l n + 51 + k) (at s k) u) (proto_at l n + 51 + j) ≡ at s j
      kid j f (yes e) =
          ap (λ (i : ℕ). at (put (proto_at l n + 51 + k) (at s k) u) (proto_at l n + 51 + i)) e
          ∙ get_or-set_same u (proto_at l n + 51 + k) (at s k) 0 (omega (arith, h, few, room, m.long)) ∙ ap (at s) (sym e)
      kid j f (no d) = get_or-set_other u (proto_at l n + 51 + k) (proto_at l n + 51 + j) (at s k) 0 (λ e. d (omega (arith, e))) ∙ m.child j (omega (arith, f, d))

      up : (j : ℕ) → j < k + 1 → Dec (proto_at l (at s j) + 2 ≡ proto_at l (at s k) + 2) → Dec (j ≡ k)
          → at (put (proto_at l (at s k) + 2) (n + 1) (put (proto_at l n + 51 + k) (at s k) u)) (proto_at l (at s j) + 2) ≡ n + 1
      up j f (yes e) d = ap (at (put A (n + 1) v)) e ∙ get_or-set_same v A (n + 1) 0 (omega (arith, low k h, room, m.long, length-set u B (at s k)))
      up j f (no e) (yes d) = absurd (e (ap (λ (i : ℕ). proto_at l (at s i) + 2) d))
      up j f (no e) (no d) =
          let g : j < k = omega (arith, f, d) in
          get_or-set_other v A (proto_at l (at s j) + 2) (n + 1) 0 e ∙ get_or-set_other u B (proto_at l (at s j) + 2) (at s k) 0 (λ z. omega (arith, z, low j (omega (arith, g, h)))) ∙ m.parent j g

  nest_all : Nesting l n s w (length s) (put_nested l n s w)
  unfolding put_nested
  nest_all =
      run_along (nest_one l n s) (λ k u. Nesting l n s w k u) 0 (length s) w (omega arith) (λ k u h m. nest_turn k u h m)
      (record { long = refl; other = λ x f. refl; child = λ j f. absurd (let z : ⊥ = omega (arith, f) in z); parent = λ j f. absurd (let z : ⊥ = omega (arith, f) in z) })

-- a word of one prototype is the third word of no other
rows_differ : (i c d : ℕ) → d < 59 → d ≢ 2 → 59 * i + d ≢ 59 * c + 2
rows_differ i c d h e z = go (dec_lt i c) (dec_lt c i)
  where
    go : Dec (i < c) → Dec (c < i) → ⊥
    go (yes f) g = omega (arith, f, h, z)
    go (no f) (yes g) = omega (arith, g, h, z)
    go (no f) (no g) = e (omega (arith, f, g, z))

module _ (l : Lay) (ok : Laid l) (a : Apart l) (r : Rows l) (constants nested : List ℕ) {w b : List ℕ} (t : State l (heap w b)) (h : protos_used l w < l.protos.room)
    (few : (length constants ≤ 48) × (length nested ≤ 8)) (p : are_nestable l w nested ≡ true) where
  abbrev o : Order l
  o = order l ok a

  abbrev n : ℕ
  n = protos_used l w

  abbrev P : ℕ
  P = proto_at l (protos_used l w)

  abbrev k : ℕ
  k = length constants / 3

  abbrev w₁ : List ℕ
  w₁ = clear (proto_at l (protos_used l w)) PROTO_WORDS w

  abbrev w₂ : List ℕ
  w₂ = put (proto_at l (protos_used l w) + 1) (length nested) (put (proto_at l (protos_used l w)) (length constants / 3) (clear (proto_at l (protos_used l w)) PROTO_WORDS w))

  abbrev w₃ : List ℕ
  w₃ = put_values (proto_at l (protos_used l w) + 3) constants (length constants / 3) w₂

  abbrev w₄ : List ℕ
  w₄ = put_nested l (protos_used l w) nested w₃

  abbrev u : List ℕ
  u = put PROTOTYPES (protos_used l w + 1) w₄

  used_is : n ≡ at w PROTOTYPES
  used_is = omega (arith, t.mains.protos)

  room : P + 59 ≤ length w
  room = omega (arith, (parts_room l w ok t.long).protos, h)

  past : l.boundary ≤ P
  past = omega (arith, o.past_protos)

  long₁ : length w₁ ≡ length w
  long₁ = clear_length P PROTO_WORDS w

  long₂ : length w₂ ≡ length w
  long₂ = length-set (put P k w₁) (P + 1) (length nested) ∙ length-set w₁ P k ∙ long₁

  -- the constants
  one_out : (j x : ℕ) (v : List ℕ) → j < k → (x < P + 3) ⊎ (P + 51 ≤ x) → at (put_one (P + 3) constants j v) x ≡ at v x
  unfolding put_one
  one_out j x v f g =
      put3_kept (P + 3 + 3 * j) (tag_of c) (low_of c) (high_of c) v x
      (⊎_elim (λ z. inl (omega (arith, z))) (λ z. inr (omega (arith, z, f, third (length constants) few.0))) g)
    where
      c : Value
      c = value_at constants (3 * j)

  values_out : (x : ℕ) → (x < P + 3) ⊎ (P + 51 ≤ x) → at w₃ x ≡ at w₂ x
  unfolding put_values
  values_out x f = run_keeps (put_one (P + 3) constants) (λ (v : List ℕ). at v x ≡ at w₂ x) 0 k w₂ (omega arith) (λ j v g e. one_out j x v g f ∙ e) refl

  long₃ : length w₃ ≡ length w
  unfolding put_values put_one
  long₃ =
      run_keeps (put_one (P + 3) constants) (λ (v : List ℕ). length v ≡ length w) 0 k w₂ (omega arith)
      (λ j v g e. let c = value_at constants (3 * j) in put3_long (P + 3 + 3 * j) (tag_of c) (low_of c) (high_of c) v ∙ e) long₂

  before : (x : ℕ) → (x < P) ⊎ (P + 59 ≤ x) → at w₃ x ≡ at w x
  before x f =
      values_out x (⊎_elim (λ z. inl (omega (arith, z))) (λ z. inr (omega (arith, z))) f)
      ∙ get_or-set_other (put P k w₁) (P + 1) x _ 0 (λ e. ⊎_elim (λ z. omega (arith, z, e)) (λ z. omega (arith, z, e)) f)
      ∙ get_or-set_other w₁ P x _ 0 (λ e. ⊎_elim (λ z. omega (arith, z, e)) (λ z. omega (arith, z, e)) f)
      ∙ clear_out P PROTO_WORDS w x f

  counted : at w₃ (P + 1) ≡ length nested
  counted = values_out (P + 1) (inl (omega arith)) ∙ get_or-set_same (put P k w₁) (P + 1) (length nested) 0 (omega (arith, room, long₁, length-set w₁ P k))

  low : (j : ℕ) → j < length nested → at nested j < n
  low j f = nest_made l w nested p j f

  m : Nesting l (protos_used l w) nested w₃ (length nested) w₄
  m = nest_all l (protos_used l w) nested w₃ (omega (arith, room, long₃)) few.1 low

  -- what stands elsewhere
  header : P ≢ PROTOTYPES
  header e = omega (arith, e, past, o.header, a)

  elsewhere : (x : ℕ) → x ≢ PROTOTYPES → (x < P) ⊎ (P + 59 ≤ x) → ((j : ℕ) → j < length nested → x ≢ proto_at l (at nested j) + 2) → at u x ≡ at w x
  elsewhere x d f g =
      get_or-set_other w₄ PROTOTYPES x (n + 1) 0 d
      ∙ m.other x (λ j i. ((λ e. ⊎_elim (λ z. omega (arith, z, e)) (λ z. omega (arith, z, e, i, few.1)) f), g j i))
      ∙ before x f

  pub below : (x : ℕ) → x ≢ PROTOTYPES → x < l.boundary → at u x ≡ at w x
  below x d f = elsewhere x d (inl (omega (arith, f, past))) (λ j i e. omega (arith, e, f, o.past_protos))

  pub new_used : at u PROTOTYPES ≡ n + 1
  new_used = get_or-set_same w₄ PROTOTYPES (n + 1) 0 (omega (arith, m.long, long₃, t.long, o.words, o.header, a))

  new_count : at u (P + 1) ≡ length nested
  new_count =
      get_or-set_other w₄ PROTOTYPES (P + 1) (n + 1) 0 (λ e. omega (arith, e, past, o.header, a))
      ∙ m.other (P + 1) (λ j i. ((λ e. omega (arith, e)), λ e. omega (arith, e, low j i)))
      ∙ counted

  new_child : (j : ℕ) → j < length nested → at u (P + 51 + j) ≡ at nested j
  new_child j i = get_or-set_other w₄ PROTOTYPES (P + 51 + j) (n + 1) 0 (λ e. omega (arith, e, past, o.header, a)) ∙ m.child j i

  new_parent : (j : ℕ) → j < length nested → at u (proto_at l (at nested j) + 2) ≡ n + 1
  new_parent j i = get_or-set_other w₄ PROTOTYPES (proto_at l (at nested j) + 2) (n + 1) 0 (λ e. omega (arith, e, o.past_protos, o.header, a)) ∙ m.parent j i

  -- a word of an older prototype that is not its parent
  old_word : (i d : ℕ) → i < n → d < 59 → d ≢ 2 → at u (proto_at l i + d) ≡ at w (proto_at l i + d)
  old_word i d f g e =
      elsewhere (proto_at l i + d) (λ z. omega (arith, z, o.past_protos, o.header, a)) (inl (omega (arith, f, g)))
      (λ j q z. rows_differ i (at nested j) d g e (omega (arith, z)))

  old_child : (i j : ℕ) → i < n → j < 8 → proto_child l i j u ≡ proto_child l i j w
  old_child i j f g =
      let e : proto_at l i + 51 + j ≡ proto_at l i + (51 + j) = omega arith in
      ap (at u) e ∙ old_word i (51 + j) f (omega (arith, g)) (omega arith) ∙ ap (at w) (sym e)

  -- the parent of one that is nested already
  old_parent : (c i : ℕ) → c < n → proto_parent l c w ≡ i + 1 → proto_parent l c u ≡ i + 1
  old_parent c i f e =
      elsewhere (proto_at l c + 2) (λ z. omega (arith, z, o.past_protos, o.header, a)) (inl (omega (arith, f)))
      (λ j q z. let same : c ≡ at nested j = omega (arith, z) in omega (arith, e, sym (ap (λ (x : ℕ). proto_parent l x w) same), nest_free l w nested p j q))
      ∙ e

  old : Nested l w
  old = t.nested

  -- older ones as they were, and the new one
  pub nested_now : Nested l u
  nested_now = record {
    few = λ i f. most i (dec_lt i n) f;
    falls = λ i j f g. fall i j (dec_lt i n) f g;
    parent = λ i j f g. above i j (dec_lt i n) f g;
    once = λ i x y f g q e. one i x y (dec_lt i n) f g q e;
  }
    where
      is_new : (i : ℕ) → (i < n → ⊥) → i < at u PROTOTYPES → i ≡ n
      is_new i d f = omega (arith, d, f, new_used)

      older : (i : ℕ) → i < n → i < at w PROTOTYPES
      older i f = omega (arith, f, used_is)

      same_count : (i : ℕ) → i < n → at u (proto_at l i + 1) ≡ at w (proto_at l i + 1)
      same_count i f = old_word i 1 f (omega arith) (omega arith)

      lower : (i j : ℕ) → i < n → j < at u (proto_at l i + 1) → j < at w (proto_at l i + 1)
      lower i j f g = omega (arith, g, same_count i f)

      eight : (i j : ℕ) → i < n → j < at u (proto_at l i + 1) → j < 8
      eight i j f g = omega (arith, lower i j f g, old.few i (older i f))

      in_new : (i j : ℕ) → i ≡ n → j < at u (proto_at l i + 1) → j < length nested
      in_new i j e g = omega (arith, g, ap (λ (x : ℕ). at u (proto_at l x + 1)) e ∙ new_count)

      most : (i : ℕ) → Dec (i < n) → i < at u PROTOTYPES → at u (proto_at l i + 1) ≤ 8
      most i (yes d) f = omega (arith, same_count i d, old.few i (older i d))
      most i (no d) f = omega (arith, ap (λ (x : ℕ). at u (proto_at l x + 1)) (is_new i d f) ∙ new_count, few.1)

      kid : (i j : ℕ) → i ≡ n → j < length nested → proto_child l i j u ≡ at nested j
      kid i j e g = ap (λ (x : ℕ). proto_child l x j u) e ∙ new_child j g

      fall : (i j : ℕ) → Dec (i < n) → i < at u PROTOTYPES → j < at u (proto_at l i + 1) → proto_child l i j u < i
      fall i j (yes d) f g = omega (arith, old_child i j d (eight i j d g), old.falls i j (older i d) (lower i j d g))
      fall i j (no d) f g =
          let e = is_new i d f in
          let q = in_new i j e g in
          omega (arith, kid i j e q, low j q, e)

      above : (i j : ℕ) → Dec (i < n) → i < at u PROTOTYPES → j < at u (proto_at l i + 1) → proto_parent l (proto_child l i j u) u ≡ i + 1
      above i j (yes d) f g =
          let q = lower i j d g in
          ap (λ (x : ℕ). proto_parent l x u) (old_child i j d (eight i j d g)) ∙ old_parent (proto_child l i j w) i (omega (arith, old.falls i j (older i d) q, d)) (old.parent i j (older i d) q)
      above i j (no d) f g =
          let e = is_new i d f in
          let q = in_new i j e g in
          ap (λ (x : ℕ). proto_parent l x u) (kid i j e q) ∙ new_parent j q ∙ ap (λ (x : ℕ). x + 1) (sym e)

      one : (i x y : ℕ) → Dec (i < n) → i < at u PROTOTYPES → x < at u (proto_at l i + 1) → y < at u (proto_at l i + 1) → proto_child l i x u ≡ proto_child l i y u → x ≡ y
      one i x y (yes d) f g q e =
          old.once i x y (older i d) (lower i x d g) (lower i y d q) (sym (old_child i x d (eight i x d g)) ∙ e ∙ old_child i y d (eight i y d q))
      one i x y (no d) f g q e =
          let z = is_new i d f in
          nest_once l w nested p x y (in_new i x z g) (in_new i y z q) (sym (kid i x z (in_new i x z g)) ∙ e ∙ kid i y z (in_new i y z q))

  pub near : Nearly l w u
  near = record { long = length-set w₄ PROTOTYPES (n + 1) ∙ m.long ∙ long₃; same = same }
    where
      same : (x : ℕ) → Looked l x → at u x ≡ at w x
      same x (sizes f) = below x (λ e. omega (arith, e, f)) (omega (arith, f, o.header, a))
      same x (marks f g) = below x (λ e. omega (arith, e, f)) (omega (arith, g, o.header, a))
      same x (cells f g) = below x (λ e. omega (arith, e, f)) g
