-- The byte search and comparison, a place at a time: what the rest from place k on gives is what the whole gives.
--     has_again, has_found, has_end              one place is passed; the byte is there; the end
--     same_again, same_other, same_end           the same for comparison
--     same_short                                 texts of different lengths differ
-- Assumes nothing.
use Rattle.std.specs.Prelude.{◌≡◌, refl, Bool, true, false, cond, List, [], ◌∷◌, ℕ, suc, ◌+◌, ◌≤◌, ◌<◌, eqb, length, drop}
use Rattle.std.proofs.Common.{ap, arith, drop-cons}
use Rattle.std.proofs.Math.ListN.{drop_of_length-le}
use borrow.Author.Tests.{eq-eqb, ne_eqb}
use Rattle.base.specs.Words.{at}
use Rattle.record.specs.Strings.{has_byte, same_bytes}

-- what the places from k on give
unfoldable pub has_from : ℕ → List ℕ → ℕ → Bool
has_from k s c = has_byte (drop k s) c

unfoldable pub same_from : ℕ → List ℕ → List ℕ → Bool
same_from k s t = same_bytes (drop k s) (drop k t)

next : (s : List ℕ) (k : ℕ) → k < length s → drop k s ≡ at s k ∷ drop (k + 1) s
next s k h = let q : k + 1 ≡ suc k = omega arith in rw q (drop-cons s k 0 h)

module _ (k : ℕ) (s : List ℕ) (c : ℕ) {r : Bool} (rest : has_from k s c ≡ r) where
  pub has_again : k < length s → (at s k ≡ c → ⊥) → has_from (k + 1) s c ≡ r
  unfolding has_from has_byte
  has_again h d = rw (next s k h, ne_eqb (at s k) c d) at rest

  pub has_found : k < length s → at s k ≡ c → true ≡ r
  unfolding has_from has_byte
  has_found h e = rw (next s k h, eq-eqb (at s k) c e) at rest

  pub has_end : length s ≤ k → false ≡ r
  unfolding has_from has_byte
  has_end h = rw (drop_of_length-le s h) at rest

module _ (k : ℕ) (s t : List ℕ) {r : Bool} (rest : same_from k s t ≡ r) where
  pub same_again : k < length s → k < length t → at s k ≡ at t k → same_from (k + 1) s t ≡ r
  unfolding same_from same_bytes
  same_again h j e = rw (next s k h, next t k j, eq-eqb (at s k) (at t k) e) at rest

  pub same_other : k < length s → k < length t → (at s k ≡ at t k → ⊥) → false ≡ r
  unfolding same_from same_bytes
  same_other h j d = rw (next s k h, next t k j, ne_eqb (at s k) (at t k) d) at rest

  pub same_end : length s ≤ k → length t ≤ k → true ≡ r
  unfolding same_from same_bytes
  same_end h j = rw (drop_of_length-le s h, drop_of_length-le t j) at rest

pub same_short : (s t : List ℕ) → (length s ≡ length t → ⊥) → false ≡ same_bytes s t
unfolding same_bytes
same_short [] [] d = absurd (d refl)
same_short [] (y ∷ ys) d = refl
same_short (x ∷ xs) [] d = refl
same_short (x ∷ xs) (y ∷ ys) d = shorter (eqb x y) (same_short xs ys (λ e. d (ap suc e)))
  where
    shorter : (b : Bool) → false ≡ same_bytes xs ys → false ≡ cond b (same_bytes xs ys) false
    shorter true p = p
    shorter false p = refl
