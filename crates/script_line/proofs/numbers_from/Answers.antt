-- `script_line::numbers_from` meets its contract: by the cases of its tests. Assumes nothing.
use native.Mathlib.Omega.{arith}
use Rattle.base.specs.Ways.{le_yes, le_no}
use Rattle.script_line.specs.Lines.{numbers_from}
use Rattle.script_line.proofs.numbers_from.Goals as goal

pub returns-then-line-end : goal.returns-then-line-end
unfolding numbers_from
returns-then-line-end c = le_yes _ _ _ _ _ (omega arith) c.counted.ensures

pub returns : goal.returns
unfolding numbers_from
returns c = le_no _ _ _ _ _ (omega arith) c.first.ensures
