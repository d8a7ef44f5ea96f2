-- `mark::mark_gray` meets its contract: the callees' equations joined. Assumes nothing.
use native.Mathlib.Omega.{arith}
use Rattle.mark.specs.Shades.{white_in}
use Rattle.mark.specs.Words.{grayed}
use Rattle.mark.proofs.mark_gray.Goals as goal

pub set_colour-requires : goal.set_colour-requires
set_colour-requires c = record { room = c.requires.room; i_lt_slots = omega (arith, c.wide.ensures.0, white_in _ _ _ _ c.shade.ensures c.is_white.ensures c.if-is_white.true) }

pub returns-then-is_white : goal.returns-then-is_white
unfolding grayed
returns-then-is_white c = rw (← c.shade.ensures, ← c.is_white.ensures, c.if-is_white.true, ← c.wide.ensures.0, ← c.set_colour.ensures) c.push.ensures

pub returns-else-is_white : goal.returns-else-is_white
unfolding grayed
returns-else-is_white c = rw (← c.shade.ensures, ← c.is_white.ensures, c.if-is_white.false)
