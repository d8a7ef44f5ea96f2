-- `script_line::exactly` meets its contract: by the cases of its tests. Assumes nothing.
use mathlib.Core.Path.{refl}
use Rattle.base.specs.Ways.{eq_yes, eq_no}
use Rattle.script_line.specs.Lines.{exactly}
use Rattle.script_line.proofs.exactly.Goals as goal

pub returns-then-count-wanted : goal.returns-then-count-wanted
unfolding exactly
returns-then-count-wanted c = eq_yes _ _ _ _ _ c.if-count-wanted.true refl

pub returns : goal.returns
unfolding exactly
returns c = eq_no _ _ _ _ _ c.if-count-wanted.false refl
