-- `pacing::budget_of` meets its contract. A signed test and a signed cast are read through `to_z w64 (of_z w64 z)`, which is z; then by cases on z.
use mathlib.Core.Path.{◌≡◌, refl, sym, ap, subst, ◌∙◌}
use mathlib.Core.Bool.{true, false, true≢false}
use Prim.Native.Nat.{◌<◌}
use native.Mathlib.Omega.{arith}
use borrow.Author.Tests.{ltb-true}
use lib.Dec.{T}
use lib.IntN.{ℤ, pos, negsuc, nat_abs}
use lib.Signed.{lt_z, non_neg}
use mir.Syntax.{w64}
use mir.Val.{Fits, SFits, to_z, of_z}
use mir.ValLaws.{to_z-of_z}
use Rattle.pacing.specs.Pacing.{budget_of}
use Rattle.pacing.proofs.budget_of.Goals as goal

-- Assumes nothing.

module _ (z : ℤ) (f : SFits w64 z) where
  same : to_z w64 (of_z w64 z) ≡ z
  same = to_z-of_z w64 z f

  test : {b : _} → lt_z (to_z w64 (of_z w64 z)) (pos 0) ≡ b → lt_z z (pos 0) ≡ b
  test p = ap (λ (x : ℤ). lt_z x (pos 0)) (sym same) ∙ p

below : (z : ℤ) → lt_z z (pos 0) ≡ true → 0 ≡ budget_of z
below (pos n) p = let h = ltb-true n 0 p in omega arith
below (negsuc n) p = refl

above : (z : ℤ) → SFits w64 z → lt_z z (pos 0) ≡ false → T (non_neg z) × Fits w64 (nat_abs z)
above (pos n) f p = (tt, record { fits = let h : n < 9223372036854775808 = f.sfits in omega arith })
above (negsuc n) f p = absurd (true≢false p)

is : (z : ℤ) → lt_z z (pos 0) ≡ false → nat_abs z ≡ budget_of z
is (pos n) p = refl
is (negsuc n) p = absurd (true≢false p)

pub returns-then-b-lt0 : goal.returns-then-b-lt0
returns-then-b-lt0 c = below c.args.b (test c.args.b c.ranges.b c.if-b-lt0.true)

pub overflow_cast-result : goal.overflow_cast-result
overflow_cast-result c =
    subst (λ (x : ℤ). T (non_neg x) × Fits w64 (nat_abs x)) (sym (same c.args.b c.ranges.b))
    (above c.args.b c.ranges.b (test c.args.b c.ranges.b c.if-b-lt0.false))

pub returns-else-b-lt0 : goal.returns-else-b-lt0
returns-else-b-lt0 c = ap nat_abs (same c.args.b c.ranges.b) ∙ is c.args.b (test c.args.b c.ranges.b c.if-b-lt0.false)
