-- `make_strings::string_in` meets its contract: each way by its test. Assumes nothing.
use mathlib.Core.Path.{refl}
use Rattle.base.specs.Ways.{lt_no, lt_yes}
use Rattle.make_strings.specs.Making.{string_in}
use Rattle.make_strings.proofs.string_in.Goals as goal

pub returns-then-s-gt64 : goal.returns-then-s-gt64
unfolding string_in
returns-then-s-gt64 c = lt_yes _ _ _ _ _ c.if-s-gt64.true refl

pub found_string-requires : goal.found_string-requires
found_string-requires c = record { l_in_bounds = c.requires.l_in_bounds; i_bound = rw c.in-Some.is at c.find_string.ensures.1 }

pub returns-in-Some : goal.returns-in-Some
unfolding string_in
returns-in-Some c = lt_no _ _ _ _ _ c.if-s-gt64.false (rw (← c.find_string.ensures.0, c.in-Some.is, ← c.found_string.ensures))

pub returns-in-None : goal.returns-in-None
unfolding string_in
returns-in-None c = lt_no _ _ _ _ _ c.if-s-gt64.false (rw (← c.find_string.ensures.0, c.in-None.is) c.new_string.ensures)
