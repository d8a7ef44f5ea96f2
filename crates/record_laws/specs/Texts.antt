-- A text that is written is read back, and no other byte changes; comparison says whether two texts are one. Assumes nothing.
use Rattle.std.specs.Prelude.{◌≡◌, refl, true, false, List, [], ◌∷◌, ◌≢◌, drop}
use Rattle.std.proofs.Common.{ap, ◌∙◌, inl, get_or-set_same, get_or-take, get_or-drop, eq-eqb, ne_eqb}
use Rattle.std.proofs.lemmas.Bool.{false≢true}
use Prim.Native.Nat.{ℕ, zero, suc, ◌+◌, ◌-◌, ◌*◌, ◌≤◌, ◌<◌}
use Rattle.std.proofs.Math.Decide.{ℕ_discrete}
use native.Mathlib.Omega.{arith}
use Rattle.std.proofs.Math.ListN.{length, length-set, length-take, length-drop}
use Rattle.std.proofs.Math.Seq.{ext_get_or}
use Rattle.base.specs.Loop.{rounds, run}
use Rattle.base.specs.Words.{at}
use Rattle.record.specs.Strings.{text_of, text_one, text_put, same_bytes}
use Rattle.record_laws.specs.Stores.{Only, only_then, only_in, only_put}

module _ (i : ℕ) (s : List ℕ) where
  same_as : (p : ℕ) (b : List ℕ) → Only p 0 b b
  same_as p b = record { long = refl; kept = λ q o. refl }

  rounds_only : (n k : ℕ) (b : List ℕ) → Only (64 * i + k) n b (rounds (text_one i s) n k b)
  unfolding rounds
  rounds_only zero k b = same_as (64 * i + k) b
  rounds_only (suc n) k b =
      only_then
      (only_in (64 * i + k) (suc n) (only_put (64 * i + k) (at s k) b) (omega arith) (omega arith))
      (only_in (64 * i + k) (suc n) (rounds_only n (k + 1) (text_one i s k b)) (omega arith) (omega arith))

  rounds_back : (n k j : ℕ) (b : List ℕ) → k ≤ j → j < k + n → 64 * i + k + n ≤ length b → at (rounds (text_one i s) n k b) (64 * i + j) ≡ at s j
  unfolding rounds
  rounds_back zero k j b f g h = absurd (let z : ⊥ = omega arith in z)
  rounds_back (suc n) k j b f g h = go (ℕ_discrete k j) (λ d. rounds_back n (k + 1) j (text_one i s k b) (omega arith) (omega arith) (omega (arith, length-set b (64 * i + k) (at s k))))
    where
      go : Dec (k ≡ j) → (k ≢ j → at (rounds (text_one i s) n (k + 1) (text_one i s k b)) (64 * i + j) ≡ at s j) → at (rounds (text_one i s) n (k + 1) (text_one i s k b)) (64 * i + j) ≡ at s j
      go (yes e) ih =
          (rounds_only n (k + 1) (text_one i s k b)).kept (64 * i + j) (inl (omega arith))
          ∙ rw (← e) (get_or-set_same b (64 * i + k) (at s k) 0 (omega arith))
      go (no d) ih = ih d

  -- only the bytes of the text are written
  pub text_only : (b : List ℕ) → Only (64 * i) (length s) b (text_put i s b)
  unfolding text_put run
  text_only b = only_in (64 * i) (length s) (rounds_only (length s - 0) 0 b) (omega arith) (omega arith)

  -- and they are read back
  pub text_back : (b : List ℕ) → 64 * i + length s ≤ length b → text_of i (length s) (text_put i s b) ≡ s
  unfolding text_put run
  text_back b h = ext_get_or 0 (text_of i (length s) (text_put i s b)) s long each
    where
      long : length (text_of i (length s) (text_put i s b)) ≡ length s
      long = omega (arith, length-take (length s) (drop (64 * i) (text_put i s b)), length-drop (64 * i) (text_put i s b), (text_only b).long)

      each : (j : ℕ) → j < length (text_of i (length s) (text_put i s b)) → at (text_of i (length s) (text_put i s b)) j ≡ at s j
      each j f =
          get_or-take (length s) (drop (64 * i) (text_put i s b)) j 0 (omega (arith, long))
          ∙ get_or-drop (64 * i) (text_put i s b) j 0
          ∙ rounds_back (length s - 0) 0 j b (omega arith) (omega (arith, long)) (omega arith)

-- Comparison answers yes exactly if the two texts are one.
pub same_self : (s : List ℕ) → same_bytes s s ≡ true
unfolding same_bytes
same_self [] = refl
same_self (x ∷ xs) = rw (eq-eqb x x refl) (same_self xs)

pub same_one : (s t : List ℕ) → same_bytes s t ≡ true → s ≡ t
unfolding same_bytes
same_one [] [] p = refl
same_one [] (y ∷ ys) p = absurd (false≢true p)
same_one (x ∷ xs) [] p = absurd (false≢true p)
same_one (x ∷ xs) (y ∷ ys) p = go (ℕ_discrete x y) (same_one xs ys)
  where
    go : Dec (x ≡ y) → (same_bytes xs ys ≡ true → xs ≡ ys) → x ∷ xs ≡ y ∷ ys
    go (yes e) ih = rw e (ap (λ (l : List ℕ). y ∷ l) (ih (rw (eq-eqb x y e) at p)))
    go (no d) ih = absurd (false≢true (rw (ne_eqb x y d) at p))
