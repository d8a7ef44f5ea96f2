-- Digits put one by one, the last first, into bytes that end with them: what is left of the number, in front of what stands
-- from place i on, gives the whole.
--     digits_start      no digit is put
--     digits_again      one more digit, and more are left
--     digits_last       the number's first digit is put
--     digits_end        all places are used
-- Assumes nothing.
use Rattle.std.specs.Prelude.{◌≡◌, refl, List, [], ◌∷◌, ℕ, suc, ◌+◌, ◌-◌, ◌/◌, ◌%◌, ◌≤◌, ◌<◌, length, take, drop, set}
use Rattle.std.proofs.Common.{sym, ap, ◌∙◌, arith, length-drop, drop_of_length-le, length-set, take_all, drop-cons, get_or-set_same, drop-set-lt}
use Rattle.base.specs.Ways.{if_lt, lt_yes, lt_no}
use Rattle.script_print.specs.Texts.{digits_on}

-- a byte put before what stands from place k + 1 on
put_front : (d : List ℕ) (k x : ℕ) → k < length d → drop k (set d k x) ≡ x ∷ drop (suc k) d
put_front d k x h =
    let e : k < length (set d k x) = simp length-set (omega arith) in
    rw (drop-cons (set d k x) k 0 e, get_or-set_same d k x 0 h, drop-set-lt (suc k) d k x (omega arith))

unfoldable pub digits_from : ℕ → ℕ → List ℕ → List ℕ
digits_from i n d = digits_on i n (drop i d)

pub digits_start : (k n : ℕ) (d : List ℕ) → length d ≡ k → digits_from k n d ≡ digits_on k n []
unfolding digits_from
digits_start k n d e = rw (drop_of_length-le d {i = k} (omega arith))

turn : (k n : ℕ) (d : List ℕ) → k < length d
    → if_lt n 10 (drop k (set d k (48 + n % 10))) (digits_from k (n / 10) (set d k (48 + n % 10))) ≡ digits_from (suc k) n d
unfolding digits_from digits_on
turn k n d h = rw (put_front d k (48 + n % 10) h)

module _ (i n : ℕ) (d : List ℕ) {r : List ℕ} (rest : digits_from i n d ≡ r) (h : 0 < i) (g : i ≤ length d) where
  turned : if_lt n 10 (drop (i - 1) (set d (i - 1) (48 + n % 10))) (digits_from (i - 1) (n / 10) (set d (i - 1) (48 + n % 10))) ≡ r
  turned =
      let q : i ≡ suc (i - 1) = omega arith in
      turn (i - 1) n d (omega arith) ∙ (ap (λ (j : ℕ). digits_from j n d) (sym q) ∙ rest)

  pub digits_again : 10 ≤ n → digits_from (i - 1) (n / 10) (set d (i - 1) (48 + n % 10)) ≡ r
  digits_again m = lt_no n 10 _ _ _ m refl ∙ turned

  pub digits_last : {k : ℕ} → length d ≡ k → n < 10 → take (k - (i - 1)) (drop (i - 1) (set d (i - 1) (48 + n % 10))) ≡ r
  digits_last {k} l m =
      let e : length (drop (i - 1) (set d (i - 1) (48 + n % 10))) ≤ k - (i - 1) = simp (length-drop, length-set) (omega arith) in
      take_all _ _ e ∙ (lt_yes n 10 _ _ _ m refl ∙ turned)

pub digits_end : (i n : ℕ) (d : List ℕ) {r : List ℕ} {k : ℕ} → digits_from i n d ≡ r → i ≤ 0 → length d ≡ k → take (k - i) (drop i d) ≡ r
unfolding digits_from digits_on
digits_end i n d {k = k} p h l =
    let z : i ≡ 0 = omega arith in
    rw z (take_all (k - 0) d (omega arith) ∙ (rw z at p))
