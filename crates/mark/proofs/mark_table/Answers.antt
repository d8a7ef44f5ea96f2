-- `mark::mark_table` meets its contract: from what its callees promise. Assumes nothing.
use Rattle.laid.specs.Laid.{tables_room, gray_room_lem, laid_of}
use Rattle.mark.specs.Words.{grayed}
use Rattle.mark.specs.Marking.{mark_table}
use Rattle.mark.proofs.mark_table.Goals as goal

pub mark_gray-requires : goal.mark_gray-requires
mark_gray-requires c = record { room = rw c.tables_of.ensures (tables_room _ _ (laid_of _ c.args.l.fits) c.requires.l_in_bounds); room_for = rw c.gray_of.ensures (gray_room_lem _ _ (laid_of _ c.args.l.fits) c.requires.l_in_bounds) }

pub returns : goal.returns
unfolding mark_table grayed
returns c = (rw (c.tables_of.ensures, c.gray_of.ensures) at c.mark_gray.ensures)
