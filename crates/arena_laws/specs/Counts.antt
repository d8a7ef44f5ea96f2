-- Counting the occupied slots among some in a row. Assumes nothing.
use Rattle.std.specs.Prelude.{◌≡◌, refl, ◌≢◌, List, ℕ, zero, suc, ◌+◌, ◌-◌, ◌≤◌, ◌<◌}
use Rattle.std.proofs.Common.{sym, ap, ap₂, ◌∙◌, arith}
use Rattle.std.proofs.Math.Decide.{ℕ_discrete}
use Rattle.base.specs.Loop.{run, rounds}
use Rattle.base.specs.Ways.{if_eq, eq_yes, eq_no}
use Rattle.arena.specs.Slots.{colour, used, tallied, occupied}
use Rattle.arena.specs.declared.Arena.{Arena}

-- 0 for a free slot's colour, 1 for an occupied one's
abbrev pub one : ℕ → ℕ
one c = if_eq c 0 0 1

-- the two cases
pub one_free : (c : ℕ) → c ≡ 0 → one c ≡ 0
one_free c h = sym (eq_yes c 0 0 1 0 h refl)

pub one_occupied : (c : ℕ) → c ≢ 0 → one c ≡ 1
one_occupied c h = sym (eq_no c 0 0 1 1 h refl)

-- how many of n slots from slot k on are occupied, by their colours f
unfoldable pub tally : (ℕ → ℕ) → ℕ → ℕ → ℕ
tally f k zero = 0
tally f k (suc n) = one (f k) + tally f (k + 1) n

-- no slot, and one slot more
pub tally_none : (f : ℕ → ℕ) (k : ℕ) → tally f k 0 ≡ 0
unfolding tally
tally_none f k = refl

-- the last of n + 1 slots apart
pub tally_last : (f : ℕ → ℕ) (n k : ℕ) → tally f k (n + 1) ≡ tally f k n + one (f (k + n))
unfolding tally
tally_last f zero k =
    let e : k + 0 ≡ k = omega arith in
    rw e (omega arith)
tally_last f (suc n) k =
    let e : k + 1 + n ≡ k + suc n = omega arith in
    let m : suc n + 1 ≡ suc (n + 1) = omega arith in
    ap (tally f k) m ∙ omega (arith, tally_last f n (k + 1), ap (λ (x : ℕ). one (f x)) e)

-- slots that are occupied alike count alike
pub tally_same : (f g : ℕ → ℕ) (n k : ℕ) → ((j : ℕ) → k ≤ j → j < k + n → one (g j) ≡ one (f j)) → tally g k n ≡ tally f k n
unfolding tally
tally_same f g zero k h = refl
tally_same f g (suc n) k h =
    ap₂ (λ (x y : ℕ). x + y) (h k (omega arith) (omega arith)) (tally_same f g n (k + 1) (λ j p q. h j (omega arith) (omega arith)))

-- one free slot that is occupied then counts one more
pub tally_more : (f g : ℕ → ℕ) (i n k : ℕ) → k ≤ i → i < k + n → f i ≡ 0 → g i ≢ 0
    → ((j : ℕ) → k ≤ j → j < k + n → j ≢ i → g j ≡ f j) → tally g k n ≡ tally f k n + 1
unfolding tally
tally_more f g i zero k p q u v h = absurd (omega arith)
tally_more f g i (suc n) k p q u v h = go (ℕ_discrete k i) (λ p'. tally_more f g i n (k + 1) p' (omega arith) u v (λ j p q m. h j (omega arith) (omega arith) m))
  where
    go : Dec (k ≡ i) → (k + 1 ≤ i → tally g (k + 1) n ≡ tally f (k + 1) n + 1) → tally g k (suc n) ≡ tally f k (suc n) + 1
    go (yes e) ih =
        let fk : f k ≡ 0 = ap f e ∙ u in
        let gk : g k ≢ 0 = λ z. v (ap g (sym e) ∙ z) in
        omega (
          arith,
          one_free (f k) fk,
          one_occupied (g k) gk,
          tally_same f g n (k + 1) (λ j p q. ap (λ (c : ℕ). one c) (h j (omega arith) (omega arith) (omega arith))),
        )
    go (no e) ih = omega (arith, ih (omega arith), ap (λ (c : ℕ). one c) (h k (omega arith) (omega arith) e))

-- where all are occupied, all count
pub tally_all : (f : ℕ → ℕ) (n k : ℕ) → ((j : ℕ) → k ≤ j → j < k + n → f j ≢ 0) → tally f k n ≡ n
unfolding tally
tally_all f zero k h = refl
tally_all f (suc n) k h =
    omega (arith, one_occupied (f k) (h k (omega arith) (omega arith)), tally_all f n (k + 1) (λ j p q. h j (omega arith) (omega arith)))

-- no more count than there are
pub tally_most : (f : ℕ → ℕ) (n k : ℕ) → tally f k n ≤ n
unfolding tally
tally_most f zero k = omega arith
tally_most f (suc n) k = go (ℕ_discrete (f k) 0) (tally_most f n (k + 1))
  where
    go : Dec (f k ≡ 0) → tally f (k + 1) n ≤ n → one (f k) + tally f (k + 1) n ≤ suc n
    go (yes e) ih = omega (arith, one_free (f k) e)
    go (no e) ih = omega (arith, one_occupied (f k) e)

-- the colours of the slots
abbrev pub colours : Arena → List ℕ → ℕ → ℕ
colours a w i = colour a i w

tallied_is : (a : Arena) (w : List ℕ) (k s : ℕ) → tallied a w k s ≡ s + one (colour a k w)
unfolding tallied
tallied_is a w k s = go (ℕ_discrete (colour a k w) 0)
  where
    go : Dec (colour a k w ≡ 0) → if_eq (colour a k w) 0 s (s + 1) ≡ s + one (colour a k w)
    go (yes e) = sym (eq_yes (colour a k w) 0 s (s + 1) _ e (omega (arith, one_free (colour a k w) e)))
    go (no e) = sym (eq_no (colour a k w) 0 s (s + 1) _ e (omega (arith, one_occupied (colour a k w) e)))

rounds_tally : (a : Arena) (w : List ℕ) (n k s : ℕ) → rounds (tallied a w) n k s ≡ s + tally (colours a w) k n
unfolding rounds tally
rounds_tally a w zero k s = omega arith
rounds_tally a w (suc n) k s = rounds_tally a w n (k + 1) (tallied a w k s) ∙ omega (arith, tallied_is a w k s)

-- the count of occupied slots by their colours, as a tally
pub occupied_is : (a : Arena) (w : List ℕ) → occupied a w ≡ tally (colours a w) 0 (used a w)
unfolding occupied run
occupied_is a w =
    let e : used a w - 0 ≡ used a w = omega arith in
    rounds_tally a w (used a w - 0) 0 0 ∙ omega (arith, ap (tally (colours a w) 0) e)
