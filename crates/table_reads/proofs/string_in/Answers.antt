-- `table_reads::string_in` meets its contract: each way by its test. Assumes nothing.
use mathlib.Core.Path.{refl}
use native.Mathlib.Omega.{arith}
use Rattle.base.specs.Ways.{le_yes, le_no}
use Rattle.table_reads.proofs.string_in.Goals as goal

pub returns-then-string_length-k : goal.returns-then-string_length-k
returns-then-string_length-k c = rw c.in-Byte.is (le_yes _ _ _ _ _ (omega arith) refl)

pub returns-in-Length : goal.returns-in-Length
returns-in-Length c = rw (c.in-Length.is, c.string_length.ensures.0)

pub returns-else-string_length-k : goal.returns-else-string_length-k
returns-else-string_length-k c = rw c.in-Byte.is (le_no _ _ _ _ _ (omega arith) (rw (c.byte_at.ensures, c.wide-k.ensures.0)))
