-- How many words of a run pass a test, and what one store does to that. Assumes nothing.
--     is_dark, dark_marked, dark-white     gray and black; colours 3 and 4 are, the whites are not
--     count_to, count_most, count_alike    how many of the n words from p on pass; n at most; the same where each tests alike
--     count_put, count-lost               one store; at most one is lost by it
--     white_and_dark                      no word is counted as white and as dark
use Rattle.std.specs.Prelude.{◌≡◌, Bool, true, false, cond, List as Words, ◌≢◌, eqb, length}
use Rattle.std.proofs.Math.Path.{refl, ap}
use Rattle.std.proofs.Common.{sym, ◌∙◌, get_or-set_same, eq-eqb, ne_eqb, eqb-true}
use Prim.Native.Nat.{ℕ, zero, suc, ◌+◌, ◌≤◌, ◌<◌}
use Rattle.std.proofs.Math.Decide.{ℕ_discrete}
use native.Mathlib.Omega.{arith}
use Rattle.std.proofs.Math.Seq.{get_or-set_other}
use Rattle.base.specs.Words.{at, put}
use Rattle.mark.specs.Ops.{is_white}
use Rattle.mark_laws.specs.Colours.{white_true}
use Rattle.mark_laws.specs.Whites.{whites_to}
use Rattle.mark_laws.specs.Items.{one}

-- Gray is colour 3, and dark is gray or black.
abbrev pub is_gray : ℕ → Bool
is_gray c = eqb c 3

unfoldable pub is_dark : ℕ → Bool
is_dark c = cond (eqb c 3) true (eqb c 4)

-- what is gray or black is dark
pub dark_marked : (c : ℕ) → 3 ≤ c → c ≤ 4 → is_dark c ≡ true
unfolding is_dark
dark_marked c h g = go (ℕ_discrete c 3)
  where
    go : Dec (c ≡ 3) → cond (eqb c 3) true (eqb c 4) ≡ true
    go (yes e) = ap (λ (x : Bool). cond x true (eqb c 4)) (eq-eqb c 3 e)
    go (no d) = ap (λ (x : Bool). cond x true (eqb c 4)) (ne_eqb c 3 d) ∙ eq-eqb c 4 (omega (arith, d))

-- what is neither is not
pub dark_not : (c : ℕ) → c ≢ 3 → c ≢ 4 → is_dark c ≡ false
unfolding is_dark
dark_not c d e = ap (λ (x : Bool). cond x true (eqb c 4)) (ne_eqb c 3 d) ∙ ne_eqb c 4 e

-- what is dark is gray or black
pub dark_true : (c : ℕ) → is_dark c ≡ true → (3 ≤ c) × (c ≤ 4)
unfolding is_dark
dark_true c e = go (eqb c 3) (eqb c 4) refl refl e
  where
    go : (x y : Bool) → eqb c 3 ≡ x → eqb c 4 ≡ y → cond x true y ≡ true → (3 ≤ c) × (c ≤ 4)
    go true y p q t = (omega (arith, eqb-true c 3 p), omega (arith, eqb-true c 3 p))
    go false true p q t = (omega (arith, eqb-true c 4 q), omega (arith, eqb-true c 4 q))
    go false false p q t = absurd (let z : ◌≡◌ {A = ℕ} 0 1 = ap one t in omega (arith, z))

-- at most one
pub one_most : (x : Bool) → one x ≤ 1
one_most true = omega arith
one_most false = omega arith

-- How many of the n words from p on pass the test.
unfoldable pub count_to : (ℕ → Bool) → ℕ → ℕ → Words ℕ → ℕ
count_to f p zero w = 0
count_to f p (suc n) w = one (f (at w (p + n))) + count_to f p n w

module _ (f : ℕ → Bool) (p : ℕ) where
  -- as many as there are words, at most
  pub count_most : (n : ℕ) (w : Words ℕ) → count_to f p n w ≤ n
  unfolding count_to
  count_most zero w = omega arith
  count_most (suc n) w = omega (arith, one_most (f (at w (p + n))), count_most n w)

  -- as many where each word tests as it did
  pub count_alike : (n : ℕ) (w u : Words ℕ) → ((i : ℕ) → i < n → f (at u (p + i)) ≡ f (at w (p + i))) → count_to f p n u ≡ count_to f p n w
  unfolding count_to
  count_alike zero w u h = refl
  count_alike (suc n) w u h =
      ap (λ (x : Bool). one x + count_to f p n u) (h n (omega arith))
      ∙ ap (λ (x : ℕ). one (f (at w (p + n))) + x) (count_alike n w u (λ i g. h i (omega arith)))

  -- and where each word is as it was
  pub count_same : (n : ℕ) (w u : Words ℕ) → ((i : ℕ) → i < n → at u (p + i) ≡ at w (p + i)) → count_to f p n u ≡ count_to f p n w
  count_same n w u h = count_alike n w u (λ i g. ap f (h i g))

  -- One store: what passed there before is taken off, what passes there now is added.
  pub count_put : (n i c : ℕ) (w : Words ℕ) → i < n → p + i < length w → count_to f p n (put (p + i) c w) + one (f (at w (p + i))) ≡ count_to f p n w + one (f c)
  unfolding count_to
  count_put zero i c w h g = absurd (let z : ⊥ = omega arith in z)
  count_put (suc n) i c w h g = go (ℕ_discrete i n) (λ k. count_put n i c w k g)
    where
      go : Dec (i ≡ n) → (i < n → count_to f p n (put (p + i) c w) + one (f (at w (p + i))) ≡ count_to f p n w + one (f c))
          → one (f (at (put (p + i) c w) (p + n))) + count_to f p n (put (p + i) c w) + one (f (at w (p + i))) ≡ one (f (at w (p + n))) + count_to f p n w + one (f c)
      go (yes e) rest =
          sums (one (f (at (put (p + i) c w) (p + n)))) (count_to f p n (put (p + i) c w)) (one (f (at w (p + i)))) (one (f (at w (p + n)))) (count_to f p n w) (one (f c))
          (ap (λ (j : ℕ). one (f (at (put (p + i) c w) (p + j)))) (sym e) ∙ ap (λ (x : ℕ). one (f x)) (get_or-set_same w (p + i) c 0 g))
          (count_same n w (put (p + i) c w) (λ j k. get_or-set_other w (p + i) (p + j) c 0 (λ z. omega (arith, z, e, k))))
          (ap (λ (j : ℕ). one (f (at w (p + j)))) e)
        where
          sums : (x y z u v t : ℕ) → x ≡ t → y ≡ v → z ≡ u → x + y + z ≡ u + v + t
          sums x y z u v t a b c = omega (arith, a, b, c)
      go (no d) rest =
          sums (one (f (at (put (p + i) c w) (p + n)))) (count_to f p n (put (p + i) c w)) (one (f (at w (p + i)))) (one (f (at w (p + n)))) (count_to f p n w) (one (f c))
          (ap (λ (x : ℕ). one (f x)) (get_or-set_other w (p + i) (p + n) c 0 (λ z. omega (arith, z, d))))
          (rest (omega (arith, d, h)))
        where
          sums : (x y z u v t : ℕ) → x ≡ u → y + z ≡ v + t → x + y + z ≡ u + v + t
          sums x y z u v t a b = omega (arith, a, b)

-- No word is white and dark.
pub white_and_dark : (p n : ℕ) (w : Words ℕ) → whites_to p n w + count_to is_dark p n w ≤ n
unfolding whites_to count_to
white_and_dark p zero w = omega arith
white_and_dark p (suc n) w = sums (one (is_white (at w (p + n)))) (whites_to p n w) (one (is_dark (at w (p + n)))) (count_to is_dark p n w) n (both (at w (p + n))) (white_and_dark p n w)
  where
    both : (c : ℕ) → one (is_white c) + one (is_dark c) ≤ 1
    both c = go (is_white c) (is_dark c) refl refl
      where
        go : (x y : Bool) → is_white c ≡ x → is_dark c ≡ y → one x + one y ≤ 1
        go true true e d = absurd (let z : ⊥ = omega (arith, (white_true c e).1, (dark_true c d).0) in z)
        go true false e d = omega arith
        go false true e d = omega arith
        go false false e d = omega arith

    sums : (x y z t n : ℕ) → x + z ≤ 1 → y + t ≤ n → x + y + (z + t) ≤ suc n
    sums x y z t n f g = omega (arith, f, g)
