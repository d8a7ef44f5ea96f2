-- What the definitions of values, handles and keys mean. Assumes nothing.
--     value_back, value_kept, value_long     a value written is read back; no other word changes; the words stay as many
--     value_three, value_apart               a value is its three words; one written apart from it leaves it
--     handle_back, handle_kept               the same for a handle that may be missing
--     key_number, key_other                  equal keys are equal numbers, or one and the same value
--     key_self, key_turned                   a key equals itself unless it is NaN; equality goes both ways
use Rattle.std.specs.Prelude.{◌≡◌, ℕ, ◌+◌, ◌^◌, ◌<◌, ◌≤◌, Bool, true, false, ◌≢◌, ◌⊎◌, List, length, ◌==◌, slice_set, refl, Some, None, Option}
use Rattle.std.proofs.Common.{sym, ap, subst, ◌∙◌, inl, inr, mod-eq_of_lt, arith, length-set, get_or-set_same, get_or-set_other, set-set, eq-eqb, ne_eqb, eqb-true, lt-ltb, le-ltb}
use Rattle.std.proofs.lemmas.Bool.{false≢true}
use Rattle.std.proofs.Math.Nat.{mod-add-div'}
use Rattle.std.proofs.Math.Decide.{dec_lt, ℕ_discrete}
use Rattle.std.proofs.lemmas.List.{set-get_or, set_comm}
use Rattle.base.specs.Ways.{if_eq, if_lt, lt_yes, lt_no, eq_yes, eq_no}
use Rattle.base.specs.Words.{at, put}
use Rattle.value.specs.Numbers.{magnitude, infinity, same_number}
use Rattle.value.specs.Values.{tag_of, low_of, high_of, bits_of, value_of, value_at, put3, put_value, payload_equal, key_equal}
use Rattle.value.specs.Handles.{handle_of, handle_at, first_of, second_of, put_handle}
use Rattle.value.specs.declared.Value.{Value}
use Rattle.value.specs.declared.Value.TheVariants.{Nil, Boolean, Light, Number, Str, Table, Function, Userdata, Thread}

-- place q lies outside the n places from p on
abbrev pub Outside : ℕ → ℕ → ℕ → Type 0
Outside p n q = (q < p) ⊎ (p + n ≤ q)

pub away : (p n q : ℕ) → Outside p n q → (r : ℕ) → p ≤ r → r < p + n → q ≢ r
away p n q (inl h) r f g e = omega arith
away p n q (inr h) r f g e = omega arith

-- what lies outside n places lies outside a part of them
pub outer : (p n q : ℕ) → Outside p n q → (p' n' : ℕ) → p ≤ p' → p' + n' ≤ p + n → Outside p' n' q
outer p n q (inl h) p' n' f g = inl (omega arith)
outer p n q (inr h) p' n' f g = inr (omega arith)

-- Three words from p on.
module _ (p a b c : ℕ) (w : List ℕ) where
  pub put3_long : length (put3 p a b c w) ≡ length w
  put3_long = length-set (put (p + 1) b (put p a w)) (p + 2) c ∙ length-set (put p a w) (p + 1) b ∙ length-set w p a

  pub put3_kept : (q : ℕ) → Outside p 3 q → at (put3 p a b c w) q ≡ at w q
  put3_kept q o =
      get_or-set_other (put (p + 1) b (put p a w)) (p + 2) q c 0 (away p 3 q o (p + 2) (omega arith) (omega arith))
      ∙ get_or-set_other (put p a w) (p + 1) q b 0 (away p 3 q o (p + 1) (omega arith) (omega arith))
      ∙ get_or-set_other w p q a 0 (away p 3 q o p (omega arith) (omega arith))

  -- a word written elsewhere, three words written anew, and what is there already
  pub put3_past : (q x : ℕ) → Outside p 3 q → put3 p a b c (put q x w) ≡ put q x (put3 p a b c w)
  put3_past q x o =
      ap (λ (u : List ℕ). put (p + 2) c (put (p + 1) b u)) (set_comm w q p x a (away p 3 q o p (omega arith) (omega arith)))
      ∙ ap (λ (u : List ℕ). put (p + 2) c u) (set_comm (put p a w) q (p + 1) x b (away p 3 q o (p + 1) (omega arith) (omega arith)))
      ∙ set_comm (put (p + 1) b (put p a w)) q (p + 2) x c (away p 3 q o (p + 2) (omega arith) (omega arith))

  pub put3_same : at w p ≡ a → at w (p + 1) ≡ b → at w (p + 2) ≡ c → put3 p a b c w ≡ w
  put3_same f s t =
      ap (λ (u : List ℕ). put (p + 2) c (put (p + 1) b u)) (there p a f)
      ∙ ap (λ (u : List ℕ). put (p + 2) c u) (there (p + 1) b s)
      ∙ there (p + 2) c t
    where
      there : (q x : ℕ) → at w q ≡ x → put q x w ≡ w
      there q x e = ap (λ (k : ℕ). slice_set w q k) (sym e) ∙ set-get_or w q 0

  pub put3_over : (a' b' c' : ℕ) → put3 p a b c (put3 p a' b' c' w) ≡ put3 p a b c w
  put3_over a' b' c' =
      ap (λ (u : List ℕ). put (p + 2) c (put (p + 1) b u)) first
      ∙ ap (λ (u : List ℕ). put (p + 2) c u) second
      ∙ set-set (put (p + 1) b (put p a w)) (p + 2) c' c
    where
      first : put p a (put3 p a' b' c' w) ≡ put3 p a b' c' w
      first =
          set_comm (put (p + 1) b' (put p a' w)) (p + 2) p c' a (λ e. omega arith)
          ∙ ap (λ (u : List ℕ). put (p + 2) c' u) (set_comm (put p a' w) (p + 1) p b' a (λ e. omega arith))
          ∙ ap (λ (u : List ℕ). put (p + 2) c' (put (p + 1) b' u)) (set-set w p a' a)

      second : put (p + 1) b (put3 p a b' c' w) ≡ put3 p a b c' w
      second =
          set_comm (put (p + 1) b' (put p a w)) (p + 2) (p + 1) c' b (λ e. omega arith)
          ∙ ap (λ (u : List ℕ). put (p + 2) c' u) (set-set (put p a w) (p + 1) b' b)

  module _ (fits : p + 2 < length w) where
    pub put3_first : at (put3 p a b c w) p ≡ a
    put3_first =
        get_or-set_other (put (p + 1) b (put p a w)) (p + 2) p c 0 (λ e. omega arith)
        ∙ get_or-set_other (put p a w) (p + 1) p b 0 (λ e. omega arith)
        ∙ get_or-set_same w p a 0 (omega arith)

    pub put3_second : at (put3 p a b c w) (p + 1) ≡ b
    put3_second =
        get_or-set_other (put (p + 1) b (put p a w)) (p + 2) (p + 1) c 0 (λ e. omega arith)
        ∙ get_or-set_same (put p a w) (p + 1) b 0 (omega (arith, length-set w p a))

    pub put3_third : at (put3 p a b c w) (p + 2) ≡ c
    put3_third =
        get_or-set_same (put (p + 1) b (put p a w)) (p + 2) c 0
        (omega (arith, length-set (put p a w) (p + 1) b, length-set w p a))

-- A value is its three words.
pub value_parts : (v : Value) → value_of (tag_of v) (low_of v) (high_of v) ≡ v
unfolding value_of if_eq
value_parts Nil = refl
value_parts (Boolean true) = refl
value_parts (Boolean false) = refl
value_parts (Light x) = ap Light (mod-add-div' x 4294967296)
value_parts (Number x) = ap Number (mod-add-div' x 4294967296)
value_parts (Str r) = refl
value_parts (Table r) = refl
value_parts (Function r) = refl
value_parts (Userdata r) = refl
value_parts (Thread r) = refl

pub value_three : (p : ℕ) (w u : List ℕ) → at w p ≡ at u p → at w (p + 1) ≡ at u (p + 1) → at w (p + 2) ≡ at u (p + 2) → value_at w p ≡ value_at u p
value_three p w u f s t = rw (f, s, t)

-- A value that is written is read back; every other word, and how many they are, stays.
pub value_back : (p : ℕ) (v : Value) (w : List ℕ) → p + 2 < length w → value_at (put_value p v w) p ≡ v
value_back p v w h =
    rw (put3_first p (tag_of v) (low_of v) (high_of v) w h, put3_second p (tag_of v) (low_of v) (high_of v) w h, put3_third p (tag_of v) (low_of v) (high_of v) w h)
    (value_parts v)

pub value_kept : (p : ℕ) (v : Value) (w : List ℕ) (q : ℕ) → Outside p 3 q → at (put_value p v w) q ≡ at w q
value_kept p v w = put3_kept p (tag_of v) (low_of v) (high_of v) w

pub value_long : (p : ℕ) (v : Value) (w : List ℕ) → length (put_value p v w) ≡ length w
value_long p v w = put3_long p (tag_of v) (low_of v) (high_of v) w

pub value_apart : (p q : ℕ) (v : Value) (w : List ℕ) → (q + 2 < p) ⊎ (p + 2 < q) → value_at (put_value p v w) q ≡ value_at w q
value_apart p q v w o =
    value_three q (put_value p v w) w
    (value_kept p v w q (side o q (omega arith) (omega arith)))
    (value_kept p v w (q + 1) (side o (q + 1) (omega arith) (omega arith)))
    (value_kept p v w (q + 2) (side o (q + 2) (omega arith) (omega arith)))
  where
    side : (q + 2 < p) ⊎ (p + 2 < q) → (r : ℕ) → q ≤ r → r ≤ q + 2 → Outside p 3 r
    side (inl h) r f g = inl (omega arith)
    side (inr h) r f g = inr (omega arith)

-- A handle that may be missing: every index but 2^32 - 1 can be stored.
abbrev pub Storable : Option (ℕ × ℕ) → Type 0
Storable None = Unit {0}
Storable (Some (i, g)) = i + 1 < 2 ^ 32

handle_parts : (h : Option (ℕ × ℕ)) → Storable h → handle_of (first_of h) (second_of h) ≡ h
unfolding handle_of if_eq
handle_parts None s = refl
handle_parts (Some (i, g)) s = rw (mod-eq_of_lt s, ne_eqb (i + 1) 0 (λ e. omega arith)) (ap (λ (k : ℕ). Some (k, g)) (omega arith))

pub handle_back : (p : ℕ) (h : Option (ℕ × ℕ)) (w : List ℕ) → p + 1 < length w → Storable h → handle_at (put_handle p h w) p ≡ h
unfolding put_handle
handle_back p h w f s =
    rw (
      get_or-set_other (put p (first_of h) w) (p + 1) p (second_of h) 0 (λ e. omega arith),
      get_or-set_same w p (first_of h) 0 (omega arith),
      get_or-set_same (put p (first_of h) w) (p + 1) (second_of h) 0 (omega (arith, length-set w p (first_of h))),
    )
    (handle_parts h s)

pub handle_kept : (p : ℕ) (h : Option (ℕ × ℕ)) (w : List ℕ) (q : ℕ) → Outside p 2 q → at (put_handle p h w) q ≡ at w q
unfolding put_handle
handle_kept p h w q o =
    get_or-set_other (put p (first_of h) w) (p + 1) q (second_of h) 0 (away p 2 q o (p + 1) (omega arith) (omega arith))
    ∙ get_or-set_other w p q (first_of h) 0 (away p 2 q o p (omega arith) (omega arith))

-- Numbers that differ in their bits are equal only if both are zeros. Equality goes both ways.
both_zeros : (x y : ℕ) → x ≢ y → if_lt 0 (magnitude x) false (magnitude y == 0) ≡ same_number x y
unfolding same_number
both_zeros x y d = go (dec_lt infinity (magnitude x))
  where
    go : Dec (infinity < magnitude x) → if_lt 0 (magnitude x) false (magnitude y == 0) ≡ same_number x y
    go (yes h) = lt_yes _ _ _ _ _ h (sym (lt_yes 0 (magnitude x) false _ false (omega arith) refl))
    go (no h) = lt_no _ _ _ _ _ (omega arith) (eq_no _ _ _ _ _ d refl)

zeros_turned : (m n : ℕ) → if_lt 0 m false (n == 0) ≡ if_lt 0 n false (m == 0)
unfolding if_lt
zeros_turned m n = go (dec_lt 0 m) (dec_lt 0 n)
  where
    go : Dec (0 < m) → Dec (0 < n) → if_lt 0 m false (n == 0) ≡ if_lt 0 n false (m == 0)
    go (yes h) (yes k) = rw (lt-ltb 0 m h, lt-ltb 0 n k)
    go (yes h) (no k) = rw (lt-ltb 0 m h, le-ltb 0 n (omega arith), ne_eqb m 0 (λ e. omega arith))
    go (no h) (yes k) = rw (le-ltb 0 m (omega arith), lt-ltb 0 n k, ne_eqb n 0 (λ e. omega arith))
    go (no h) (no k) = rw (le-ltb 0 m (omega arith), le-ltb 0 n (omega arith), eq-eqb m 0 (omega arith), eq-eqb n 0 (omega arith))

pub number_turned : (x y : ℕ) → same_number x y ≡ same_number y x
number_turned x y = go (ℕ_discrete x y)
  where
    go : Dec (x ≡ y) → same_number x y ≡ same_number y x
    go (yes e) = subst (λ (z : ℕ). same_number x z ≡ same_number z x) e refl
    go (no d) = sym (both_zeros x y d) ∙ zeros_turned (magnitude x) (magnitude y) ∙ both_zeros y x (λ e. d (sym e))

pub number_self : (x : ℕ) → magnitude x ≤ infinity → same_number x x ≡ true
unfolding same_number
number_self x h = sym (lt_no _ _ _ _ _ h (eq_yes _ _ _ _ _ refl refl))

-- Keys. Equal numbers are those that are equal as numbers; equal keys of another kind are one value.
pub key_number : (x y : ℕ) → key_equal (Number x) (Number y) ≡ same_number x y
unfolding key_equal if_eq
key_number x y = rw (mod-add-div' x 4294967296, mod-add-div' y 4294967296)

eq_was : (m n : ℕ) (x : Bool) → if_eq m n x false ≡ true → (m ≡ n) × (x ≡ true)
eq_was m n x e = go (ℕ_discrete m n)
  where
    go : Dec (m ≡ n) → (m ≡ n) × (x ≡ true)
    go (yes h) = (h, eq_yes m n x false x h refl ∙ e)
    go (no h) = absurd (false≢true (eq_no m n x false false h refl ∙ e))

pub key_other : (a b : Value) → tag_of a ≢ 3 → key_equal a b ≡ true → a ≡ b
unfolding key_equal payload_equal
key_other a b d e =
    let t = eq_was (tag_of a) (tag_of b) _ e in
    let q = eq_no (tag_of a) 3 (same_number (bits_of a) (bits_of b)) (payload_equal a b) (payload_equal a b) d refl ∙ t.1 in
    let l = eq_was (low_of a) (low_of b) (high_of a == high_of b) q in
    sym (value_parts a) ∙ rw (t.0, l.0, eqb-true (high_of a) (high_of b) l.1) (value_parts b)

-- A key equals itself, unless it is NaN.
abbrev pub NotNaN : Value → Type 0
NotNaN v = tag_of v ≡ 3 → magnitude (bits_of v) ≤ infinity

pub key_self : (v : Value) → NotNaN v → key_equal v v ≡ true
unfolding key_equal payload_equal
key_self v n = sym (eq_yes _ _ _ _ _ refl (go (ℕ_discrete (tag_of v) 3)))
  where
    go : Dec (tag_of v ≡ 3) → true ≡ if_eq (tag_of v) 3 (same_number (bits_of v) (bits_of v)) (payload_equal v v)
    go (yes e) = eq_yes _ _ _ _ _ e (sym (number_self (bits_of v) (n e)))
    go (no d) = eq_no _ _ _ _ _ d (eq_yes _ _ _ _ _ refl (sym (eq-eqb (high_of v) (high_of v) refl)))

eqb_turned : (m n : ℕ) → (m == n) ≡ (n == m)
eqb_turned m n = go (ℕ_discrete m n)
  where
    go : Dec (m ≡ n) → (m == n) ≡ (n == m)
    go (yes e) = rw (eq-eqb m n e, eq-eqb n m (sym e))
    go (no d) = rw (ne_eqb m n d, ne_eqb n m (λ e. d (sym e)))

payload_turned : (a b : Value) → payload_equal a b ≡ payload_equal b a
unfolding payload_equal if_eq
payload_turned a b = rw (eqb_turned (low_of a) (low_of b), eqb_turned (high_of a) (high_of b))

pub key_turned : (a b : Value) → key_equal a b ≡ key_equal b a
unfolding key_equal if_eq
key_turned a b = go (ℕ_discrete (tag_of a) (tag_of b))
  where
    go : Dec (tag_of a ≡ tag_of b) → key_equal a b ≡ key_equal b a
    go (yes e) = rw (eq-eqb (tag_of a) (tag_of b) e, eq-eqb (tag_of b) (tag_of a) (sym e), e, number_turned (bits_of a) (bits_of b), payload_turned a b)
    go (no d) = rw (ne_eqb (tag_of a) (tag_of b) d, ne_eqb (tag_of b) (tag_of a) (λ e. d (sym e)))
