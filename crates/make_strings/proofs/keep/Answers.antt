-- `make_strings::keep` meets its contract: each way by its test. Assumes nothing.
use mathlib.Core.Path.{refl}
use Rattle.base.specs.Ways.{eq_no, eq_yes}
use Rattle.make_strings.specs.Making.{kept}
use Rattle.make_strings.proofs.keep.Goals as goal

pub returns-then-colour_of-other_white : goal.returns-then-colour_of-other_white
unfolding kept
returns-then-colour_of-other_white c = rw (← c.get-white.ensures, ← c.colour_of.ensures, ← c.other_white.ensures) (eq_yes _ _ _ _ _ c.if-colour_of-other_white.true c.set_colour.ensures)

pub returns-else-colour_of-other_white : goal.returns-else-colour_of-other_white
unfolding kept
returns-else-colour_of-other_white c = rw (← c.get-white.ensures, ← c.colour_of.ensures, ← c.other_white.ensures) (eq_no _ _ _ _ _ c.if-colour_of-other_white.false refl)
