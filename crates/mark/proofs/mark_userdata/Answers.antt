-- `mark::mark_userdata` meets its contract: the callees' equations joined. Assumes nothing.
use Rattle.laid.specs.Laid.{userdata_room, laid_of}
use Rattle.mark.specs.Shades.{white_in}
use Rattle.mark.specs.Marking.{mark_userdata}
use Rattle.mark.proofs.mark_userdata.Goals as goal

pub shade-requires : goal.shade-requires
shade-requires c = rw c.userdata_of.ensures (userdata_room _ _ (laid_of _ c.args.l.fits) c.requires.l_in_bounds)

pub follow_userdata-requires : goal.follow_userdata-requires
follow_userdata-requires c = record { l_in_bounds = c.requires.l_in_bounds; r_bound = white_in _ _ _ _ ((rw c.userdata_of.ensures at c.shade.ensures)) c.is_white.ensures c.if-is_white.true }

pub returns-then-is_white : goal.returns-then-is_white
unfolding mark_userdata
returns-then-is_white c = rw (← (rw c.userdata_of.ensures at c.shade.ensures), ← c.is_white.ensures, c.if-is_white.true) c.follow_userdata.ensures

pub returns-else-is_white : goal.returns-else-is_white
unfolding mark_userdata
returns-else-is_white c = rw (← (rw c.userdata_of.ensures at c.shade.ensures), ← c.is_white.ensures, c.if-is_white.false)
