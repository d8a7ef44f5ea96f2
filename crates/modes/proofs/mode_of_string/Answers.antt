-- `modes::mode_of_string` meets its contract: the callees' equations joined. Assumes nothing.
use native.Mathlib.Omega.{arith}
use Rattle.laid.specs.Laid.{strings_room, string_words, text_bytes, laid_of}
use Rattle.modes.specs.Modes.{mode_of_string}
use Rattle.modes.proofs.mode_of_string.Goals as goal

pub name_of-requires : goal.name_of-requires
name_of-requires c = rw c.strings_of-strings.ensures (strings_room _ _ (laid_of _ c.args.l.fits) c.requires.l_in_bounds)

pub body_of-requires : goal.body_of-requires
body_of-requires c = record { room = rw c.strings_of-strings.ensures (strings_room _ _ (laid_of _ c.args.l.fits) c.requires.l_in_bounds); i_lt_slots = rw c.strings_of-strings.ensures (rw c.in-Some.is at (rw c.strings_of-strings.ensures at c.name_of.ensures).1) }

pub string_length-n-requires : goal.string_length-n-requires
string_length-n-requires c = omega (arith, rw (string_words _ (laid_of _ c.args.l.fits)) at (rw c.strings_of-strings.ensures at c.body_of.ensures).1)

pub text-requires : goal.text-requires
text-requires c = omega (arith, c.string_length-n.ensures.1, text_bytes _ (laid_of _ c.args.l.fits), c.requires.l_in_bounds_2, rw c.in-Some.is at (rw c.strings_of-strings.ensures at c.name_of.ensures).1)

pub returns-in-Some : goal.returns-in-Some
unfolding mode_of_string
returns-in-Some c = rw (← (rw c.strings_of-strings.ensures at c.name_of.ensures).0, c.in-Some.is, ← (rw c.strings_of-strings.ensures at c.body_of.ensures).0, ← c.string_length-n.ensures.0, ← c.text.ensures) c.mode_of_text.ensures

pub returns-in-None : goal.returns-in-None
unfolding mode_of_string
returns-in-None c = rw (← (rw c.strings_of-strings.ensures at c.name_of.ensures).0, c.in-None.is)
