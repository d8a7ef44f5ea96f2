-- A loop that writes places p to p + n - 1 one after the other gives what one write of that part gives, as `fill` and `copy_from_slice` make it.
-- Assumes nothing.
use Rattle.std.specs.Prelude.{◌≡◌, refl, List, [], ◌∷◌, ℕ, suc, ◌+◌, ◌-◌, ◌≤◌, ◌<◌, length, set, take, drop, replicate}
use Rattle.std.proofs.Common.{ap, sym, ◌∙◌, arith, length-take, length-drop}
use Rattle.std.proofs.lemmas.List.{append_assoc, get_or-replicate, length-replicate}
use Rattle.std.proofs.lemmas.List.Edits.{sets, sets-eq}
use borrow.Rule.Slice.PartMut.{put_mid, Post-is}
use Rattle.base.specs.Loop.{run, rounds}
use Rattle.base.specs.Words.{at, clear}

module _ (f : ℕ → ℕ) (p : ℕ) where
  rounds_sets : (xs : List ℕ) (k : ℕ) (l : List ℕ) → ((j : ℕ) → j < length xs → f (k + j) ≡ at xs j) → rounds (λ j t. set t (p + j) (f j)) (length xs) k l ≡ sets l (p + k) xs
  unfolding rounds
  rounds_sets [] k l same = refl
  rounds_sets (x ∷ xs) k l same =
      let here : k ≡ k + 0 = omega arith in
      let next : p + (k + 1) ≡ suc (p + k) = omega arith in
      let first : f k ≡ x = ap f here ∙ same 0 (omega arith) in
      rounds_sets xs (k + 1) (set l (p + k) (f k)) (λ j h. let turn : k + 1 + j ≡ k + suc j = omega arith in ap f turn ∙ same (suc j) (omega arith))
      ∙ rw (next, first) refl

  pub part_run : (n : ℕ) (l xs ys : List ℕ) → ys ≡ xs → length xs ≡ n → ((j : ℕ) → j < n → f j ≡ at xs j) → p + n ≤ length l
      → put_mid p (p + n - p) l ys ≡ run (λ j t. set t (p + j) (f j)) 0 n l
  unfolding run
  part_run n l xs ys e long same fits =
      let whole : n - 0 ≡ length xs = omega arith in
      let start : p + 0 ≡ p = omega arith in
      let each : (j : ℕ) → j < length xs → f (0 + j) ≡ at xs j = λ j h. let q : 0 + j ≡ j = omega arith in ap f q ∙ same j (omega arith) in
      rw (e, Post-is p (p + n) l (omega arith), whole, rounds_sets xs 0 l each, start, ← long) (sym (append_assoc (take p l) xs _) ∙ sym (sets-eq xs l p (omega arith)))

-- a part that is filled with 0 is cleared
pub part_clear : (p n : ℕ) (l ys : List ℕ) → ys ≡ replicate (length (take (p + n - p) (drop p l))) 0 → p + n ≤ length l → put_mid p (p + n - p) l ys ≡ clear p n l
unfolding clear
part_clear p n l ys e fits =
    let m = length (take (p + n - p) (drop p l)) in
    let long : m ≡ n = omega (arith, length-take (p + n - p) (drop p l), length-drop p l) in
    part_run (λ j. 0) p n l (replicate m 0) ys e (length-replicate m 0 ∙ long) (λ j h. sym (get_or-replicate m j 0 0 (omega arith))) fits
