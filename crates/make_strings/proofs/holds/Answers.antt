-- `make_strings::holds` meets its contract: a free slot by its colour, else the callees' equations joined. Assumes nothing.
use mathlib.Core.Path.{refl}
use native.Mathlib.Omega.{arith}
use Rattle.base.specs.Ways.{eq_no, eq_yes}
use Rattle.laid.specs.Laid.{string_words, strings_room, text_bytes, laid_of}
use Rattle.make_strings.specs.Making.{holds}
use Rattle.make_strings.proofs.holds.Goals as goal

pub colour_of-requires : goal.colour_of-requires
colour_of-requires c = record { room = rw c.strings_of-strings.ensures (strings_room _ _ (laid_of _ c.args.l.fits) c.requires.l_in_bounds); i_lt_slots = rw c.strings_of-strings.ensures (c.requires.i_bound) }

pub returns-then-colour_of-eq0 : goal.returns-then-colour_of-eq0
unfolding holds
returns-then-colour_of-eq0 c = rw (← (rw c.strings_of-strings.ensures at c.colour_of.ensures)) (eq_yes _ _ _ _ _ c.if-colour_of-eq0.true refl)

pub body_of-requires : goal.body_of-requires
body_of-requires c = record { room = rw c.strings_of-strings.ensures (strings_room _ _ (laid_of _ c.args.l.fits) c.requires.l_in_bounds); i_lt_slots = rw c.strings_of-strings.ensures (c.requires.i_bound) }

pub string_length-n-requires : goal.string_length-n-requires
string_length-n-requires c = omega (arith, (rw c.strings_of-strings.ensures at c.body_of.ensures).1, string_words _ (laid_of _ c.args.l.fits))

pub text-requires : goal.text-requires
text-requires c = omega (arith, text_bytes _ (laid_of _ c.args.l.fits), c.requires.l_in_bounds_2, c.requires.i_bound, c.string_length-n.ensures.1)

pub returns : goal.returns
unfolding holds
returns c = rw (← (rw c.strings_of-strings.ensures at c.colour_of.ensures)) (eq_no _ _ _ _ _ c.if-colour_of-eq0.false (rw (← (rw c.strings_of-strings.ensures at c.body_of.ensures).0, ← c.string_length-n.ensures.0, ← c.text.ensures) c.same_bytes.ensures))
