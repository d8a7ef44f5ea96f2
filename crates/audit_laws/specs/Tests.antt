-- What a test means: that it says yes exactly if something holds. Assumes nothing.
--     means_as       what it means, said otherwise
--     and_means      two tests, both of which are to say yes
--     cond_means     one test or another, by a third
--     each_means     a test of each number below n
use Rattle.std.specs.Prelude.{◌≡◌, refl, Bool, true, false, cond, ◌&&◌, ◌↔◌, ℕ, zero, suc, ◌+◌, ◌≤◌, ◌<◌}
use Rattle.std.proofs.Common.{sym, true≢false, arith}
use Rattle.making.specs.Turns.{turns, each_turn, each, each_holds}

-- the test says yes exactly if P holds
abbrev pub Means : Bool → Type 0 → Type 0
Means b P = b ≡ true ↔ P

pub means_as : {b : Bool} {P Q : Type 0} → (P → Q) → (Q → P) → Means b P → Means b Q
means_as f g p = ((λ e. f (p.0 e)), λ x. p.1 (g x))

pub and_means : (b c : Bool) {P Q : Type 0} → Means b P → Means c Q → Means (b && c) (P × Q)
and_means true c p q = ((λ e. (p.0 refl, q.0 e)), λ x. q.1 x.1)
and_means false c p q = ((λ e. absurd (true≢false (sym e))), λ x. p.1 x.0)

pub cond_means : (t b c : Bool) {P Q : Type 0} → Means b P → Means c Q → Means (cond t b c) ((t ≡ true → P) × (t ≡ false → Q))
cond_means true b c p q = ((λ e. ((λ y. p.0 e), λ y. absurd (true≢false y))), λ x. p.1 (x.0 refl))
cond_means false b c p q = ((λ e. ((λ y. absurd (true≢false (sym y))), λ y. q.0 e)), λ x. q.1 (x.1 refl))

from_all : (test : ℕ → Bool) (m i : ℕ) → ((j : ℕ) → i ≤ j → j < i + m → test j ≡ true) → turns (each_turn test) true m i ≡ true
unfolding turns each_turn
from_all test zero i h = refl
from_all test (suc m) i h = rw (h i (omega arith) (omega arith)) (from_all test m (i + 1) (λ j p q. h j (omega arith) (omega arith)))

pub each_means : (test : ℕ → Bool) (n : ℕ) {P : ℕ → Type 0} → ((k : ℕ) → Means (test k) (P k)) → Means (each test n) ((k : ℕ) → k < n → P k)
each_means test n h = (
  (λ e k l. (h k).0 (each_holds test n e k l)),
  λ x. from_all test n 0 (λ j p q. (h j).1 (x j (omega arith))),
)
