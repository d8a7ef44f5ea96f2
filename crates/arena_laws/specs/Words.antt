-- Laws of a buffer's words: what puts and a clearing change, and what they leave. Assumes nothing.
use Rattle.std.specs.Prelude.{◌≡◌, ◌⊎◌, ◌≢◌, List, [], ◌∷◌, ◌++◌, length, set}
use Rattle.std.proofs.Math.Path.{refl, ap}
use Rattle.std.proofs.Common.{sym, ◌∙◌}
use Rattle.std.proofs.Math.Logic.{inl, inr, ⊎_elim}
use Prim.Native.Nat.{ℕ, zero, suc, ◌+◌, ◌-◌, ◌≤◌, ◌<◌, zero-le, suc-le-suc}
use native.Mathlib.Omega.{arith}
use Rattle.std.proofs.Math.ListN.{length-set}
use Rattle.std.proofs.Math.Seq.{get_or-set_same, get_or-set_other}
use Rattle.base.specs.Loop.{run, rounds}
use Rattle.base.specs.Ways.{if_le, le_yes}
use Rattle.base.specs.Words.{at, put, clear, clear_one}

-- one number is at most the other, or it is more
pub le_or_lt : (a b : ℕ) → (a ≤ b) ⊎ (b < a)
le_or_lt zero b = inl zero-le
le_or_lt (suc a) zero = inr (suc-le-suc zero-le)
le_or_lt (suc a) (suc b) = ⊎_elim (λ p. inl (suc-le-suc p)) (λ q. inr (suc-le-suc q)) (le_or_lt a b)

-- Several puts, each a place and what stands there then. The last that is done is named first.
abbrev pub puts : List (ℕ × ℕ) → List ℕ → List ℕ
puts [] w = w
puts (c ∷ cs) w = put c.0 c.1 (puts cs w)

-- x is none of the places
abbrev pub Far : ℕ → List (ℕ × ℕ) → Type 0
Far x [] = Unit {0}
Far x (c ∷ cs) = (x ≢ c.0) × Far x cs

-- puts leave the length
pub puts_length : (cs : List (ℕ × ℕ)) (w : List ℕ) → length (puts cs w) ≡ length w
puts_length [] w = refl
puts_length (c ∷ cs) w = length-set (puts cs w) c.0 c.1 ∙ puts_length cs w

-- puts leave what stands elsewhere
pub puts_far : (cs : List (ℕ × ℕ)) (w : List ℕ) (x : ℕ) → Far x cs → at (puts cs w) x ≡ at w x
puts_far [] w x h = refl
puts_far (c ∷ cs) w x h = get_or-set_other (puts cs w) c.0 x c.1 0 h.0 ∙ puts_far cs w x h.1

-- what was put stands there, if no later put was at its place
pub puts_at : (later : List (ℕ × ℕ)) (p x : ℕ) (cs : List (ℕ × ℕ)) (w : List ℕ) → Far p later → p < length w → at (puts (later ++ (p, x) ∷ cs) w) p ≡ x
puts_at [] p x cs w f h = get_or-set_same (puts cs w) p x 0 (omega (arith, puts_length cs w))
puts_at (c ∷ later) p x cs w f h =
    get_or-set_other (puts (later ++ (p, x) ∷ cs) w) c.0 p c.1 0 f.0 ∙ puts_at later p x cs w f.1 h

module _ (p : ℕ) where
  clears_length : (n k : ℕ) (l : List ℕ) → length (rounds (clear_one p) n k l) ≡ length l
  unfolding rounds
  clears_length zero k l = refl
  clears_length (suc n) k l = clears_length n (k + 1) (set l (p + k) 0) ∙ length-set l (p + k) 0

  clears_out : (n k : ℕ) (l : List ℕ) (x : ℕ) → (x < p + k) ⊎ (p + k + n ≤ x) → at (rounds (clear_one p) n k l) x ≡ at l x
  unfolding rounds
  clears_out zero k l x h = refl
  clears_out (suc n) k l x h =
      clears_out n (k + 1) (set l (p + k) 0) x (⊎_elim (λ q. inl (omega arith)) (λ q. inr (omega arith)) h)
      ∙ get_or-set_other l (p + k) x 0 0 (⊎_elim (λ q. omega arith) (λ q. omega arith) h)

  clears_in : (n k : ℕ) (l : List ℕ) (j : ℕ) → p + k + n ≤ length l → k ≤ j → j < k + n → at (rounds (clear_one p) n k l) (p + j) ≡ 0
  unfolding rounds
  clears_in zero k l j h g f = absurd (omega arith)
  clears_in (suc n) k l j h g f =
      ⊎_elim
      (λ below.
      let e : j ≡ k = omega arith in
      clears_out n (k + 1) (set l (p + k) 0) (p + j) (inl (omega arith))
      ∙ ap (λ (i : ℕ). at (set l (p + k) 0) (p + i)) e
      ∙ get_or-set_same l (p + k) 0 0 (omega arith))
      (λ above. clears_in n (k + 1) (set l (p + k) 0) j (omega (arith, length-set l (p + k) 0)) (omega arith) (omega arith))
      (le_or_lt j k)

  -- a clearing leaves the length
  pub clear_length : (n : ℕ) (l : List ℕ) → length (clear p n l) ≡ length l
  unfolding clear run
  clear_length n l = clears_length (n - 0) 0 l

  -- a clearing leaves what stands before and behind
  pub clear_out : (n : ℕ) (l : List ℕ) (x : ℕ) → (x < p) ⊎ (p + n ≤ x) → at (clear p n l) x ≡ at l x
  unfolding clear run
  clear_out n l x h = clears_out (n - 0) 0 l x (⊎_elim (λ q. inl (omega arith)) (λ q. inr (omega arith)) h)

  -- a clearing leaves 0 at each of its places
  pub clear_in : (n : ℕ) (l : List ℕ) (k : ℕ) → p + n ≤ length l → k < n → at (clear p n l) (p + k) ≡ 0
  unfolding clear run
  clear_in n l k h g = clears_in (n - 0) 0 l k (omega arith) (omega arith) (omega arith)

-- a size within its range reads as it is
pub le_is : (x most : ℕ) → x ≤ most → if_le x most x 0 ≡ x
le_is x most h = sym (le_yes x most x 0 x h refl)
