-- `value::key_equal` meets its contract: each way by its test. Assumes nothing.
use Rattle.std.proofs.Common.{refl, arith}
use Rattle.base.specs.Ways.{eq_yes, eq_no}
use Rattle.value.specs.Values.{key_equal}
use Rattle.value.proofs.key_equal.Goals as goal

pub returns-then-t-tag_of : goal.returns-then-t-tag_of
unfolding key_equal
returns-then-t-tag_of c = eq_no _ _ _ _ _ (λ e. omega arith) refl

pub returns-then-t-eq3 : goal.returns-then-t-eq3
unfolding key_equal
returns-then-t-eq3 c = eq_yes _ _ _ _ _ (omega arith) (eq_yes _ _ _ _ _ (omega arith) (rw (← c.bits_of.ensures, ← c.bits_of-then-t-eq3.ensures) c.same_number.ensures))

pub returns-else-t-eq3 : goal.returns-else-t-eq3
unfolding key_equal
returns-else-t-eq3 c = eq_yes _ _ _ _ _ (omega arith) (eq_no _ _ _ _ _ (λ e. omega arith) c.payload_equal.ensures)
