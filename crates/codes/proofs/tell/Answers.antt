-- `codes::tell` meets its contract: each way by its test. Assumes nothing.
use native.Mathlib.Omega.{arith}
use Rattle.base.specs.Ways.{lt_yes, lt_no}
use Rattle.codes.specs.Answers.{told}
use Rattle.codes.proofs.tell.Goals as goal

pub returns-then-out-lt4 : goal.returns-then-out-lt4
unfolding told
returns-then-out-lt4 c = lt_yes _ _ _ _ _ (omega arith) (rw c.number.ensures)

pub returns-in-Ok : goal.returns-in-Ok
unfolding told
returns-in-Ok c = lt_no _ _ _ _ _ (omega arith) (rw (← c.words_of.ensures, c.in-Ok.is, ← c.put.ensures, ← c.put3.ensures))

pub returns-in-Err : goal.returns-in-Err
unfolding told
returns-in-Err c = lt_no _ _ _ _ _ (omega arith) (rw (← c.words_of.ensures, c.in-Err.is, c.number-in-Err.ensures))
