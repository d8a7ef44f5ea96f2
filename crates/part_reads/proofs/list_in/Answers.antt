-- `part_reads::list_in` meets its contract: each way by its test. Assumes nothing.
use mathlib.Core.Path.{refl}
use native.Mathlib.Omega.{arith}
use Rattle.base.specs.Ways.{le_yes, le_no}
use Rattle.part_reads.proofs.list_in.Goals as goal

pub returns-then-length_of-k : goal.returns-then-length_of-k
returns-then-length_of-k c = rw c.in-At.is (le_yes _ _ _ _ _ (omega arith) refl)

pub returns-in-Length : goal.returns-in-Length
returns-in-Length c = rw (c.in-Length.is, c.length_of.ensures.0)

pub returns-else-length_of-k : goal.returns-else-length_of-k
returns-else-length_of-k c = rw c.in-At.is (le_no _ _ _ _ _ (omega arith) (rw (c.item_at.ensures, c.wide-k.ensures.0)))
