-- `make_strings::found_string` meets its contract: the callees' equations joined. Assumes nothing.
use native.Mathlib.Omega.{arith}
use Rattle.laid.specs.Laid.{header_room, strings_room, laid_of}
use Rattle.make_strings.specs.Making.{found_string}
use Rattle.make_strings.proofs.found_string.Goals as goal

pub generation_of-g-requires : goal.generation_of-g-requires
generation_of-g-requires c = record { room = rw c.strings_of-strings.ensures (strings_room _ _ (laid_of _ c.args.l.fits) c.requires.l_in_bounds); i_lt_slots = rw c.strings_of-strings.ensures (c.requires.i_bound) }

pub keep-requires : goal.keep-requires
keep-requires c = record { room = rw c.strings_of-strings.ensures (strings_room _ _ (laid_of _ c.args.l.fits) c.requires.l_in_bounds); in_bounds = rw c.strings_of-strings.ensures ((header_room _ c.args.w.now (laid_of _ c.args.l.fits) c.requires.l_in_bounds, c.requires.i_bound)) }

pub overflow_cast-result : goal.overflow_cast-result
overflow_cast-result c = omega (arith, (strings_room _ c.args.w.now (laid_of _ c.args.l.fits) c.requires.l_in_bounds).slots, c.requires.i_bound)

pub returns : goal.returns
unfolding found_string
returns c = rw (← (rw c.strings_of-strings.ensures at c.generation_of-g.ensures), ← (rw c.strings_of-strings.ensures at c.keep.ensures))
