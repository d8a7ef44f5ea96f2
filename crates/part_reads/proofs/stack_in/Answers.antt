-- `part_reads::stack_in` meets its contract: each way by its test. Assumes nothing.
use mathlib.Core.Path.{refl}
use native.Mathlib.Omega.{arith}
use Rattle.base.specs.Ways.{lt_yes, lt_no}
use Rattle.part_reads.specs.PartReads.{stack_in}
use Rattle.part_reads.proofs.stack_in.Goals as goal

pub returns-then-k-p : goal.returns-then-k-p
unfolding stack_in
returns-then-k-p c = rw (← c.wide-k.ensures.0) (lt_yes _ _ _ _ _ (omega arith) c.value_read.ensures)

pub returns : goal.returns
unfolding stack_in
returns c = lt_no _ _ _ _ _ (omega arith) refl
