-- `mark::mark_upvalue` meets its contract: the callees' equations joined. Assumes nothing.
use Rattle.laid.specs.Laid.{upvalues_room, laid_of}
use Rattle.mark.specs.Shades.{white_in}
use Rattle.mark.specs.Marking.{mark_upvalue}
use Rattle.mark.proofs.mark_upvalue.Goals as goal

pub shade-requires : goal.shade-requires
shade-requires c = rw c.upvalues_of.ensures (upvalues_room _ _ (laid_of _ c.args.l.fits) c.requires.l_in_bounds)

pub follow_upvalue-requires : goal.follow_upvalue-requires
follow_upvalue-requires c = record { l_in_bounds = c.requires.l_in_bounds; r_bound = white_in _ _ _ _ ((rw c.upvalues_of.ensures at c.shade.ensures)) c.is_white.ensures c.if-is_white.true }

pub returns-then-is_white : goal.returns-then-is_white
unfolding mark_upvalue
returns-then-is_white c = rw (← (rw c.upvalues_of.ensures at c.shade.ensures), ← c.is_white.ensures, c.if-is_white.true) c.follow_upvalue.ensures

pub returns-else-is_white : goal.returns-else-is_white
unfolding mark_upvalue
returns-else-is_white c = rw (← (rw c.upvalues_of.ensures at c.shade.ensures), ← c.is_white.ensures, c.if-is_white.false)
