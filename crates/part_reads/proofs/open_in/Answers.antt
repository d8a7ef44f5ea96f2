-- `part_reads::open_in` meets its contract: each way by its test. Assumes nothing.
use mathlib.Core.Path.{refl}
use native.Mathlib.Omega.{arith}
use Rattle.base.specs.Ways.{lt_yes, lt_no, le_yes, le_no}
use Rattle.part_reads.specs.PartReads.{open_in}
use Rattle.part_reads.proofs.open_in.Goals as goal

pub returns-then-wide-k : goal.returns-then-wide-k
unfolding open_in
returns-then-wide-k c = le_yes _ _ _ _ _ (omega arith) refl

pub returns-then-k-p : goal.returns-then-k-p
unfolding open_in
returns-then-k-p c = rw (← c.wide-k.ensures.0) (le_no _ _ _ _ _ (omega arith) (lt_yes _ _ _ _ _ (omega arith) c.upval_read.ensures))

pub returns : goal.returns
unfolding open_in
returns c = le_no _ _ _ _ _ (omega arith) (lt_no _ _ _ _ _ (omega arith) refl)
