-- `mark::mark_string` meets its contract: the callees' equations joined. Assumes nothing.
use native.Mathlib.Omega.{arith}
use Rattle.laid.specs.Laid.{strings_room, laid_of}
use Rattle.mark.specs.Shades.{white_in}
use Rattle.mark.specs.Marking.{mark_string}
use Rattle.mark.proofs.mark_string.Goals as goal

pub shade-requires : goal.shade-requires
shade-requires c = rw c.strings_of-a.ensures (strings_room _ _ (laid_of _ c.args.l.fits) c.requires.l_in_bounds)

pub set_colour-requires : goal.set_colour-requires
set_colour-requires c = record { room = rw c.strings_of-a.ensures (strings_room _ _ (laid_of _ c.args.l.fits) c.requires.l_in_bounds); i_lt_slots = rw c.strings_of-a.ensures (omega (arith, c.wide.ensures.0, white_in _ _ _ _ ((rw c.strings_of-a.ensures at c.shade.ensures)) c.is_white.ensures c.if-is_white.true)) }

pub returns-then-is_white : goal.returns-then-is_white
unfolding mark_string
returns-then-is_white c = rw (← (rw c.strings_of-a.ensures at c.shade.ensures), ← c.is_white.ensures, c.if-is_white.true, ← c.wide.ensures.0) ((rw c.strings_of-a.ensures at c.set_colour.ensures))

pub returns-else-is_white : goal.returns-else-is_white
unfolding mark_string
returns-else-is_white c = rw (← (rw c.strings_of-a.ensures at c.shade.ensures), ← c.is_white.ensures, c.if-is_white.false)
