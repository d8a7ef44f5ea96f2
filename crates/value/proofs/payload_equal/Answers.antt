-- `value::payload_equal` meets its contract: each way by its test. Assumes nothing.
use Rattle.std.proofs.Common.{arith, ne_eqb}
use Rattle.base.specs.Ways.{eq_yes, eq_no}
use Rattle.value.specs.Values.{payload_equal}
use Rattle.value.proofs.payload_equal.Goals as goal

pub returns-then-low_of : goal.returns-then-low_of
unfolding payload_equal
returns-then-low_of c = eq_yes _ _ _ _ _ (omega arith) (rw (← c.high_of.ensures, ← c.high_of-then-low_of.ensures))

pub returns-else-low_of : goal.returns-else-low_of
unfolding payload_equal
returns-else-low_of c = eq_no _ _ _ _ _ (λ e. omega arith) (ne_eqb _ _ c.if-low_of.false)
