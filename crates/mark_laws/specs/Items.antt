-- How many items of one kind a working list holds. Assumes nothing.
--     items_to, items_of, items_same     among the first n, and in all; they stay where the items' words stay
--     push_counts        a push adds one at most, and only of its item's kind
--     pop_counts         a pop takes one of its item's kind
--     item_kind_lem          the kind of an item that is known is the word that it is read from
use Rattle.std.specs.Prelude.{◌≡◌, refl, Bool, true, false, cond, List as Words, ◌≢◌, ℕ, zero, suc, min, ◌+◌, ◌-◌, ◌*◌, ◌≤◌, ◌<◌, eqb, Option}
use Rattle.std.proofs.Common.{sym, ap, ◌∙◌, inl, arith, eqb-true}
use Rattle.std.proofs.Math.Decide.{dec_lt}
use Rattle.std.proofs.Math.Seq.{get_or-set_other}
use Rattle.base.specs.Ways.{if_eq}
use Rattle.base.specs.Words.{at, put}
use Rattle.value.specs.Laws.{put3_first}
use Rattle.layout.specs.declared.List.{List}
use Rattle.lists.specs.declared.Item.{Item}
use Rattle.lists.specs.declared.Item.TheVariants.{Table, Function, Userdata, Thread, Main, Unknown}
use Rattle.lists.specs.Lists.{damage, RoomFor, kind_of, index_of, generation_of, item_of, put_item, length_of, place, stored, push, taken}
use Rattle.lists.specs.Laws.{Apart}
use Rattle.lists.proofs.Laws.{stored_kept, push_stored, push_full, push_length, push_full_length, taken_kept, pop_some, pop_length}

-- 1 for yes, 0 for no
abbrev pub one : Bool → ℕ
one b = cond b 1 0

-- How many of the first n items have the kind c, and how many of all.
unfoldable pub items_to : List → ℕ → ℕ → Words ℕ → ℕ
items_to b c zero w = 0
items_to b c (suc n) w = one (eqb (at w (place b n)) c) + items_to b c n w

-- in all
abbrev pub items_of : List → ℕ → Words ℕ → ℕ
items_of b c w = items_to b c (length_of b w) w

-- They stay where the items' first words stay.
pub items_same : (b : List) (c n : ℕ) (w u : Words ℕ) → ((i : ℕ) → i < n → at u (place b i) ≡ at w (place b i)) → items_to b c n u ≡ items_to b c n w
unfolding items_to
items_same b c zero w u h = refl
items_same b c (suc n) w u h =
    ap (λ (x : ℕ). one (eqb x c) + items_to b c n u) (h n (omega arith))
    ∙ ap (λ (x : ℕ). one (eqb (at w (place b n)) c) + x) (items_same b c n w u (λ i f. h i (omega arith)))

items_next : (b : List) (c n : ℕ) (w : Words ℕ) → items_to b c (n + 1) w ≡ one (eqb (at w (place b n)) c) + items_to b c n w
unfolding items_to
items_next b c n w =
    let q : n + 1 ≡ suc n = omega arith in
    ap (λ (k : ℕ). items_to b c k w) q

-- a list's length, and so its items, stay where its words stay
pub items_stay : (b : List) (c : ℕ) (w u : Words ℕ) → at u b.count ≡ at w b.count → ((q : ℕ) → b.base ≤ q → q < b.base + 3 * b.room → at u q ≡ at w q) → items_of b c u ≡ items_of b c w
items_stay b c w u e h =
    let n : length_of b u ≡ length_of b w = ap (λ (k : ℕ). min k b.room) e in
    ap (λ (k : ℕ). items_to b c k u) n
    ∙ items_same b c (length_of b w) w u (λ i f. h (place b i) (omega arith) (omega arith))

le_turn : (x y z : ℕ) → x ≡ z + y → x ≤ y + z
le_turn x y z e = omega (arith, e)

le_more : (x y z : ℕ) → x ≡ y → x ≤ y + z
le_more x y z e = omega (arith, e)

module _ (b : List) (c : ℕ) (w : Words ℕ) (ok : RoomFor b w) where
  -- A push adds one at most, and only of its item's kind.
  pub push_counts : (x : Item) → Apart b → items_of b c (push b x w) ≤ items_of b c w + one (eqb (kind_of x) c)
  unfolding stored
  push_counts x a = go (dec_lt (length_of b w) b.room)
    where
      go : Dec (length_of b w < b.room) → items_of b c (push b x w) ≤ items_of b c w + one (eqb (kind_of x) c)
      go (yes h) = le_turn (items_of b c (push b x w)) (items_of b c w) (one (eqb (kind_of x) c)) whole
        where
          here : at (stored b (length_of b w) x w) (place b (length_of b w)) ≡ kind_of x
          here =
              get_or-set_other (put_item (place b (length_of b w)) x w) b.count (place b (length_of b w)) (length_of b w + 1) 0 (λ e. omega (arith, e, ok.count))
              ∙ put3_first (place b (length_of b w)) (kind_of x) (index_of x) (generation_of x) w (omega (arith, ok.fits, h))

          same : items_to b c (length_of b w) (stored b (length_of b w) x w) ≡ items_to b c (length_of b w) w
          same = items_same b c (length_of b w) w (stored b (length_of b w) x w) (λ i f. stored_kept b (length_of b w) w ok h x (place b i) (λ e. omega (arith, e, ok.count)) (inl (omega (arith, f))))

          whole : items_of b c (push b x w) ≡ one (eqb (kind_of x) c) + items_of b c w
          whole =
              ap (λ (k : ℕ). items_to b c k (push b x w)) (push_length b x w ok h)
              ∙ ap (items_to b c (length_of b w + 1)) (push_stored b x w h)
              ∙ items_next b c (length_of b w) (stored b (length_of b w) x w)
              ∙ ap (λ (k : ℕ). one (eqb k c) + items_to b c (length_of b w) (stored b (length_of b w) x w)) here
              ∙ ap (λ (k : ℕ). one (eqb (kind_of x) c) + k) same
      go (no h) =
          let g : b.room ≤ length_of b w = omega (arith, h) in
          let e : items_of b c (push b x w) ≡ items_of b c w =
          ap (λ (k : ℕ). items_to b c k (push b x w)) (push_full_length b x w ok a g)
          ∙ ap (items_to b c (length_of b w)) (push_full b x w g)
          ∙ items_same b c (length_of b w) w (put damage 1 w) (λ i f. get_or-set_other w damage (place b i) 1 0 (λ z. omega (arith, z, a.below))) in
          le_more (items_of b c (push b x w)) (items_of b c w) (one (eqb (kind_of x) c)) e

  -- A pop takes one of its item's kind.
  pub pop_counts : length_of b w ≢ 0 → items_of b c (taken b (length_of b w - 1) w) + one (eqb (at w (place b (length_of b w - 1))) c) ≡ items_of b c w
  pop_counts d =
      ap (λ (k : ℕ). k + one (eqb (at w (place b (length_of b w - 1))) c)) (before ∙ same)
      ∙ turn (items_to b c (length_of b w - 1) w) (one (eqb (at w (place b (length_of b w - 1))) c))
      ∙ sym (items_next b c (length_of b w - 1) w)
      ∙ ap (λ (k : ℕ). items_to b c k w) last
    where
      turn : (x y : ℕ) → x + y ≡ y + x
      turn x y = omega arith

      last : length_of b w - 1 + 1 ≡ length_of b w
      last = omega (arith, d)

      before : items_of b c (taken b (length_of b w - 1) w) ≡ items_to b c (length_of b w - 1) (taken b (length_of b w - 1) w)
      before =
          ap (λ (k : ℕ). items_to b c k (taken b (length_of b w - 1) w))
          (ap (λ (r : Option Item × Words ℕ). length_of b r.1) (sym (pop_some b w d)) ∙ pop_length b w ok)

      same : items_to b c (length_of b w - 1) (taken b (length_of b w - 1) w) ≡ items_to b c (length_of b w - 1) w
      same =
          items_same b c (length_of b w - 1) w (taken b (length_of b w - 1) w)
          (λ i f. taken_kept b (length_of b w - 1) w ok (omega (arith, d)) (place b i) (λ e. omega (arith, e, ok.count)) (inl (omega (arith, f))))

-- The kind of an item that is known is the word that it is read from.
pub item_kind_lem : (k i g c : ℕ) → kind_of (item_of k i g) ≡ c → 1 ≤ c → k ≡ c
unfolding item_of if_eq
item_kind_lem k i g c e h = go (eqb k 5) (eqb k 6) (eqb k 7) (eqb k 8) (eqb k 9) refl refl refl refl refl e
  where
    go : (p q r s t : Bool) → eqb k 5 ≡ p → eqb k 6 ≡ q → eqb k 7 ≡ r → eqb k 8 ≡ s → eqb k 9 ≡ t
        → kind_of (cond p (Table (record { 0 = i; 1 = g })) (cond q (Function (record { 0 = i; 1 = g })) (cond r (Userdata (record { 0 = i; 1 = g })) (cond s (Thread (record { 0 = i; 1 = g })) (cond t Main Unknown))))) ≡ c → k ≡ c
    go true q r s t a b d x y z = eqb-true k 5 a ∙ z
    go false true r s t a b d x y z = eqb-true k 6 b ∙ z
    go false false true s t a b d x y z = eqb-true k 7 d ∙ z
    go false false false true t a b d x y z = eqb-true k 8 x ∙ z
    go false false false false true a b d x y z = eqb-true k 9 y ∙ z
    go false false false false false a b d x y z = absurd (let n : ⊥ = omega (arith, z, h) in n)
