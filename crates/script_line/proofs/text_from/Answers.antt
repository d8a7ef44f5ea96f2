-- `script_line::text_from` meets its contract: by the cases of its tests. Assumes nothing.
use native.Mathlib.Omega.{arith}
use mathlib.Core.Path.{refl}
use Rattle.base.specs.Ways.{le_yes, le_no}
use Rattle.script_line.specs.Lines.{text_from}
use Rattle.script_line.proofs.text_from.Goals as goal

pub returns-then-line-end : goal.returns-then-line-end
unfolding text_from
returns-then-line-end c = (le_yes _ _ _ _ _ (omega arith) refl, tt)

pub returns : goal.returns
unfolding text_from
returns c = (le_no _ _ _ _ _ (omega arith) refl, omega arith)
