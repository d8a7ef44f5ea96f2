-- `script_line::parse` meets its contract: by the cases of its tests. Assumes nothing.
use native.Mathlib.Omega.{arith}
use mathlib.Core.Path.{refl}
use Rattle.base.specs.Ways.{lt_yes, lt_no}
use Rattle.script_line.specs.Lines.{parse}
use Rattle.script_line.specs.Laws.{command_within}
use Rattle.script_line.proofs.parse.Goals as goal

pub returns-then-line-gt-LONGEST : goal.returns-then-line-gt-LONGEST
unfolding parse
returns-then-line-gt-LONGEST c = (lt_yes _ _ _ _ _ (omega arith) refl, tt)

pub returns : goal.returns
unfolding parse
returns c = (lt_no _ _ _ _ _ (omega (arith, c.if-line-gt-LONGEST.false)) (rw (← c.word_from-word.ensures, ← c.field_end-end.ensures.0, ← c.text_from-text.ensures.0, ← c.numbers_from-numbers.ensures) c.command_of.ensures), rw c.command_of.ensures (command_within _ _ _ _ c.text_from-text.ensures.1))
