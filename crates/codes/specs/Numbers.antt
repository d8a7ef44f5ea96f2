-- Which question a number asks: its place in a table, from 0 on. Assumes nothing.
use Rattle.std.specs.Prelude.{◌≡◌, Err, Result}
use Rattle.std.proofs.Math.Path.{refl}
use mathlib.Core.List.{List, [], ◌∷◌}
use Prim.Native.Nat.{ℕ, zero, suc, ◌≤◌}
use Rattle.std.proofs.Common.{arith}
use Rattle.base.specs.Heap.{Heap}
use Rattle.base.specs.declared.Refusal.TheVariants.{OutOfRange}
use Rattle.base.specs.declared.Refusal.{Refusal}
use Rattle.test1.specs.Calls.{ask}
use Rattle.reads.specs.declared.Read.{Read}

abbrev pub rows : {A : Type 0} → List A → ℕ
rows [] = 0
rows (x ∷ xs) = suc (rows xs)

-- n is none of the numbers below k
abbrev pub Others : ℕ → ℕ → Type 0
Others zero n = Unit {0}
Others (suc k) n = Others k n × (n ≡ k → ⊥)

others_le : (k n : ℕ) → Others k n → k ≤ n
others_le zero n h = omega arith
others_le (suc k) n h = omega (arith, others_le k n h.0, h.1)

-- `some` of what stands at place n, `none` past the table's end.
module _ {A B : Type 0} (none : B) (some : A → B) where
  unfoldable pub pick : List A → ℕ → B
  pick [] n = none
  pick (x ∷ xs) zero = some x
  pick (x ∷ xs) (suc n) = pick xs n

  past_end : (xs : List A) (n : ℕ) → rows xs ≤ n → none ≡ pick xs n
  unfolding pick
  past_end [] n h = refl
  past_end (x ∷ xs) zero h = absurd (omega arith)
  past_end (x ∷ xs) (suc n) h = past_end xs n (omega arith)

  -- a number that is none of its places lies past the table's end
  pub past : (xs : List A) (n : ℕ) → Others (rows xs) n → none ≡ pick xs n
  past xs n h = past_end xs n (others_le (rows xs) n h)

-- A number that names no question: 1 and 8 as every call, then 4.
abbrev pub no_question : Heap → Result Read Refusal
no_question = ask Err (λ l h. Err OutOfRange)
