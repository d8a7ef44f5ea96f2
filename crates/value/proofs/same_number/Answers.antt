-- `value::same_number` meets its contract: each way by its test. Assumes nothing.
use Rattle.std.specs.Prelude.{◌≡◌, ℕ, ◌≤◌, Bool, false}
use Rattle.std.proofs.Common.{sym, refl, ◌∙◌, arith, ltb-false, ltb-true, eq-eqb, ne_eqb}
use Rattle.base.specs.Ways.{lt_yes, lt_no, eq_yes, eq_no}
use Rattle.value.specs.Numbers.{infinity, magnitude, is_nan, same_number}
use Rattle.value.proofs.same_number.Goals as goal

-- what is not NaN has at most the magnitude of infinity
number : (x : ℕ) {b : Bool} → b ≡ is_nan x → b ≡ false → magnitude x ≤ infinity
number x p q = ltb-false infinity (magnitude x) (sym p ∙ q)

pub returns-else-not-is_nan : goal.returns-else-not-is_nan
unfolding same_number
returns-else-not-is_nan c = lt_yes _ _ _ _ _ (ltb-true infinity (magnitude c.args.a) (sym c.is_nan.ensures ∙ c.if-not-is_nan.false)) (rw c.if-not-is_nan.false)

pub returns-then-a-b : goal.returns-then-a-b
unfolding same_number
returns-then-a-b c = lt_no _ _ _ _ _ (number _ c.is_nan.ensures c.if-not-is_nan.true) (eq_yes _ _ _ _ _ c.if-a-b.true (eq-eqb _ _ c.if-a-b.true))

pub returns-then-a-eq0 : goal.returns-then-a-eq0
unfolding same_number
returns-then-a-eq0 c = lt_no _ _ _ _ _ (number _ c.is_nan.ensures c.if-not-is_nan.true) (eq_no _ _ _ _ _ c.if-a-b.false (lt_no _ _ _ _ _ (omega arith) refl))

pub returns-else-a-eq0 : goal.returns-else-a-eq0
unfolding same_number
returns-else-a-eq0 c = lt_no _ _ _ _ _ (number _ c.is_nan.ensures c.if-not-is_nan.true) (eq_no _ _ _ _ _ c.if-a-b.false (lt_yes _ _ _ _ _ (omega arith) (ne_eqb _ _ c.if-a-eq0.false)))
