-- `new_codes::needed_in` meets its contract: each way by its test. Assumes nothing.
use native.Mathlib.Omega.{arith}
use Rattle.base.specs.Ways.{lt_yes, lt_no}
use Rattle.new_codes.specs.NewCodes.{needed_in, planned_small}
use Rattle.layout.specs.Layout.{needed_of}
use Rattle.new_codes.proofs.needed_in.Goals as goal

pub returns-then-out-lt2 : goal.returns-then-out-lt2
unfolding needed_in needed_of
returns-then-out-lt2 c = rw (← c.plan.ensures, c.in-Ok.is) (lt_yes _ _ _ _ _ c.if-out-lt2.true (rw c.number.ensures))

pub overflow_cast-words : goal.overflow_cast-words
overflow_cast-words c = omega (arith, c.words_of-words.ensures, planned_small _ _ (rw c.in-Ok.is at c.plan.ensures))

pub overflow_cast-bytes : goal.overflow_cast-bytes
overflow_cast-bytes c = omega (arith, c.bytes_of-bytes.ensures, planned_small _ _ (rw c.in-Ok.is at c.plan.ensures))

pub returns-else-out-lt2 : goal.returns-else-out-lt2
unfolding needed_in needed_of
returns-else-out-lt2 c = rw (← c.plan.ensures, c.in-Ok.is, ← c.words_of-words.ensures, ← c.bytes_of-bytes.ensures) (lt_no _ _ _ _ _ c.if-out-lt2.false (cc))

pub returns-in-Err : goal.returns-in-Err
unfolding needed_in needed_of
returns-in-Err c = rw (← c.plan.ensures, c.in-Err.is, c.number-in-Err.ensures)
