-- What a tag says of its value, and the invariant of a loop over the words. Assumes nothing.
use mathlib.Core.Path.{◌≡◌, refl, sym, ap, ◌∙◌}
use mathlib.Core.Logic.{◌≢◌}
use mathlib.Core.Bool.{true}
use mathlib.Core.List.{List}
use Prim.Native.Nat.{ℕ, zero, suc, ◌<◌}
use native.Mathlib.Omega.{arith}
use borrow.Author.Tests.{ne_eqb, lt-ltb}
use lib.Dec.{ltb}
use lib.ListN.{length}
use Rattle.base.specs.Ways.{if_eq}
use Rattle.base.specs.Loop.{run}
use Rattle.value.specs.Values.{tag_of, low_of, high_of, value_of, is_nil}
use Rattle.value.specs.Laws.{value_parts}
use Rattle.value.specs.declared.Value.{Value}
use Rattle.value.specs.declared.Value.TheVariants.{Nil}
use Rattle.layout.specs.declared.Lay.{Lay}
use Rattle.mark.specs.Ops.{Ops}
use Rattle.mark.specs.Marking.{mark_value}

-- A loop that does step i for each i below n: what is left gives the whole, and the words stay as many.
pub record Going (step : ℕ → List ℕ → List ℕ) (n : ℕ) (w₀ w : List ℕ) (i : ℕ) : Type 0 where
  pub rest : run step i n w ≡ run step 0 n w₀
  pub long : length w ≡ length w₀

-- the value of the three words that were read off it
pub value_told : (v : Value) {t x y : ℕ} → t ≡ tag_of v → x ≡ low_of v → y ≡ high_of v → value_of t x y ≡ v
value_told v p q r = rw (p, q, r) (value_parts v)

-- Nil is the tag 0, and every tag past 8.
past_nil : (t x y : ℕ) → 8 < t → value_of t x y ≡ Nil
unfolding value_of if_eq
past_nil t x y h =
    rw (
      ne_eqb t 1 (λ e. omega arith),
      ne_eqb t 2 (λ e. omega arith),
      ne_eqb t 3 (λ e. omega arith),
      ne_eqb t 4 (λ e. omega arith),
      ne_eqb t 5 (λ e. omega arith),
      ne_eqb t 6 (λ e. omega arith),
      ne_eqb t 7 (λ e. omega arith),
      ne_eqb t 8 (λ e. omega arith),
    )

pub nil_zero : (t x y : ℕ) → t ≡ 0 → true ≡ is_nil (value_of t x y)
unfolding value_of if_eq
nil_zero t x y e = rw e

pub nil_past : (t x y : ℕ) → t ≢ 0 → ltb 8 t ≡ is_nil (value_of t x y)
unfolding value_of if_eq
nil_past zero x y d = absurd (d refl)
nil_past (suc zero) x y d = refl
nil_past (suc (suc zero)) x y d = refl
nil_past (suc (suc (suc zero))) x y d = refl
nil_past (suc (suc (suc (suc zero)))) x y d = refl
nil_past (suc (suc (suc (suc (suc zero))))) x y d = refl
nil_past (suc (suc (suc (suc (suc (suc zero)))))) x y d = refl
nil_past (suc (suc (suc (suc (suc (suc (suc zero))))))) x y d = refl
nil_past (suc (suc (suc (suc (suc (suc (suc (suc zero)))))))) x y d = refl
nil_past (suc (suc (suc (suc (suc (suc (suc (suc (suc t))))))))) x y d = lt-ltb 8 (suc (suc (suc (suc (suc (suc (suc (suc (suc t))))))))) (omega arith) ∙ ap is_nil (sym (past_nil (suc (suc (suc (suc (suc (suc (suc (suc (suc t))))))))) x y (omega arith)))

-- A value with a tag other than 4 to 8 refers to nothing.
module _ {S : Type 0} (O : Ops S) (l : Lay) where
  pub plain_left : (t x y : ℕ) (s : S) → t ≢ 4 → t ≢ 5 → t ≢ 6 → t ≢ 7 → t ≢ 8 → s ≡ mark_value O l (value_of t x y) s
  unfolding value_of if_eq mark_value
  plain_left zero x y s d₄ d₅ d₆ d₇ d₈ = refl
  plain_left (suc zero) x y s d₄ d₅ d₆ d₇ d₈ = refl
  plain_left (suc (suc zero)) x y s d₄ d₅ d₆ d₇ d₈ = refl
  plain_left (suc (suc (suc zero))) x y s d₄ d₅ d₆ d₇ d₈ = refl
  plain_left (suc (suc (suc (suc zero)))) x y s d₄ d₅ d₆ d₇ d₈ = absurd (d₄ refl)
  plain_left (suc (suc (suc (suc (suc zero))))) x y s d₄ d₅ d₆ d₇ d₈ = absurd (d₅ refl)
  plain_left (suc (suc (suc (suc (suc (suc zero)))))) x y s d₄ d₅ d₆ d₇ d₈ = absurd (d₆ refl)
  plain_left (suc (suc (suc (suc (suc (suc (suc zero))))))) x y s d₄ d₅ d₆ d₇ d₈ = absurd (d₇ refl)
  plain_left (suc (suc (suc (suc (suc (suc (suc (suc zero)))))))) x y s d₄ d₅ d₆ d₇ d₈ = absurd (d₈ refl)
  plain_left (suc (suc (suc (suc (suc (suc (suc (suc (suc t))))))))) x y s d₄ d₅ d₆ d₇ d₈ =
      ap (λ (v : Value). mark_value O l v s) (sym (past_nil (suc (suc (suc (suc (suc (suc (suc (suc (suc t))))))))) x y (omega arith)))

  -- In particular one with a tag below 4.
  pub plain_low : (t x y : ℕ) (s : S) → t < 4 → s ≡ mark_value O l (value_of t x y) s
  plain_low t x y s h = plain_left t x y s (λ e. omega arith) (λ e. omega arith) (λ e. omega arith) (λ e. omega arith) (λ e. omega arith)
