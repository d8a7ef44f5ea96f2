-- `mark::mark_closure` meets its contract: from what its callees promise. Assumes nothing.
use Rattle.laid.specs.Laid.{functions_room, gray_room_lem, laid_of}
use Rattle.mark.specs.Words.{grayed}
use Rattle.mark.specs.Marking.{mark_closure}
use Rattle.mark.proofs.mark_closure.Goals as goal

pub mark_gray-requires : goal.mark_gray-requires
mark_gray-requires c = record { room = rw c.functions_of.ensures (functions_room _ _ (laid_of _ c.args.l.fits) c.requires.l_in_bounds); room_for = rw c.gray_of.ensures (gray_room_lem _ _ (laid_of _ c.args.l.fits) c.requires.l_in_bounds) }

pub returns : goal.returns
unfolding mark_closure grayed
returns c = (rw (c.functions_of.ensures, c.gray_of.ensures) at c.mark_gray.ensures)
