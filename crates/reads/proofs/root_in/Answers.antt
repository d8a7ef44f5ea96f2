-- `reads::root_in` meets its contract: each way by its test. Assumes nothing.
use mathlib.Core.Path.{refl}
use native.Mathlib.Omega.{arith}
use Rattle.base.specs.Ways.{lt_yes, lt_no}
use Rattle.reads.proofs.root_in.Goals as goal

pub returns-then-k-lt9 : goal.returns-then-k-lt9
returns-then-k-lt9 c = rw c.in-Type.is (lt_yes _ _ _ _ _ (omega arith) (rw (c.read_table_or-then-k-lt9.ensures, c.wide.ensures.0)))

pub returns-in-Global : goal.returns-in-Global
returns-in-Global c = rw (c.in-Global.is, c.read_table_or.ensures)

pub returns-in-Registry : goal.returns-in-Registry
returns-in-Registry c = rw (c.in-Registry.is, c.read_table_or-in-Registry.ensures)

pub returns-in-Mode : goal.returns-in-Mode
returns-in-Mode c = rw (c.in-Mode.is, c.read_str_or.ensures)

pub returns-in-Gc : goal.returns-in-Gc
returns-in-Gc c = rw (c.in-Gc.is, c.read_str_or-in-Gc.ensures)

pub returns-else-k-lt9 : goal.returns-else-k-lt9
returns-else-k-lt9 c = rw c.in-Type.is (lt_no _ _ _ _ _ (omega arith) refl)
