-- A loop that may end at any turn with its answer, as a definition, over a counter k that rises by one.
--     turns f none n k     the answer of n turns from k on: `f k rest` where the turns after k answer `rest`, `none` where no turn is left
--     each test n          whether the test holds of each number below n
-- The invariant of such a loop is "the turns from here on answer what all do", `turns f none (n - k) k ≡ turns f none n 0`. Its
-- proof cites `turns_start` at `loop-holds`, `turns_step` at `loop-again` and at a return from a turn, `turns_end` at the last return.
-- Assumes nothing.
use Rattle.std.specs.Prelude.{◌≡◌, refl, Bool, false, cond}
use Rattle.std.proofs.Common.{sym, ◌∙◌, true≢false}
use Rattle.std.proofs.Math.Path.{ap}
use Rattle.std.proofs.Math.Bool.{true}
use Prim.Native.Nat.{ℕ, zero, suc, ◌+◌, ◌-◌, ◌≤◌, ◌<◌}
use Rattle.std.proofs.Math.Decide.{dec_lt}
use native.Mathlib.Omega.{arith}

module _ {A : Type 0} (f : ℕ → A → A) (none : A) where
  unfoldable pub turns : ℕ → ℕ → A
  turns zero k = none
  turns (suc n) k = f k (turns n (k + 1))

  pub turns_start : (n m : ℕ) → n ≡ m → turns (n - 0) 0 ≡ turns m 0
  turns_start n m e =
      let q : n - 0 ≡ m = omega arith in
      ap (λ (k : ℕ). turns k 0) q

  module _ (n k : ℕ) {r : A} (rest : turns (n - k) k ≡ r) where
    pub turns_step : k < n → f k (turns (n - (k + 1)) (k + 1)) ≡ r
    unfolding turns
    turns_step h =
        let q : suc (n - (k + 1)) ≡ n - k = omega arith in
        ap (λ (i : ℕ). turns i k) q ∙ rest

    pub turns_end : n ≤ k → none ≡ r
    unfolding turns
    turns_end h =
        let q : zero ≡ n - k = omega arith in
        ap (λ (i : ℕ). turns i k) q ∙ rest

unfoldable pub each_turn : (ℕ → Bool) → ℕ → Bool → Bool
each_turn test k rest = cond (test k) rest false

abbrev pub each : (ℕ → Bool) → ℕ → Bool
each test n = turns (each_turn test) true n 0

-- a turn that the test passes, and one that it does not
module _ (test : ℕ → Bool) (n k : ℕ) {r : Bool} (rest : turns (each_turn test) true (n - k) k ≡ r) where
  pub each_again : k < n → test k ≡ true → turns (each_turn test) true (n - (k + 1)) (k + 1) ≡ r
  unfolding each_turn
  each_again h e = rw e at (turns_step (each_turn test) true n k rest h)

  pub each_stop : k < n → test k ≡ false → false ≡ r
  unfolding each_turn
  each_stop h e = rw e at (turns_step (each_turn test) true n k rest h)

-- what holds of each holds of one
module _ (test : ℕ → Bool) where
  both : (a b : Bool) → cond a b false ≡ true → (a ≡ true) × (b ≡ true)
  both true b q = (refl, q)
  both false b q = absurd (true≢false (sym q))

  from_holds : (m i : ℕ) → turns (each_turn test) true m i ≡ true → (j : ℕ) → i ≤ j → j < i + m → test j ≡ true
  unfolding turns each_turn
  from_holds zero i q j g h = absurd (let z : ⊥ = omega arith in z)
  from_holds (suc m) i q j g h = go (dec_lt i j) (both (test i) (turns (each_turn test) true m (i + 1)) q) (λ b k. from_holds m (i + 1) b j (omega arith) (omega arith))
    where
      go : Dec (i < j) → (test i ≡ true) × (turns (each_turn test) true m (i + 1) ≡ true) → (turns (each_turn test) true m (i + 1) ≡ true → i < j → test j ≡ true) → test j ≡ true
      go (yes x) p ih = ih p.1 x
      go (no x) p ih = let e : j ≡ i = omega arith in rw e p.0

  pub each_holds : (n : ℕ) → each test n ≡ true → (k : ℕ) → k < n → test k ≡ true
  each_holds n p k h = from_holds n 0 p k (omega arith) (omega arith)
