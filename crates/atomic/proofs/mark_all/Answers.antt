-- `atomic::mark_all` meets its contract: the callees' equations joined. Assumes nothing.
use native.Mathlib.Omega.{arith}
use Rattle.laid.specs.Laid.{grayagain_room_lem, laid_of}
use Rattle.atomic.specs.Atomic.{marked}
use Rattle.atomic.proofs.mark_all.Goals as goal

pub clear_list-requires : goal.clear_list-requires
clear_list-requires c = rw c.grayagain_of.ensures (grayagain_room_lem _ _ (laid_of _ c.args.l.fits) (omega (arith, c.requires.l_in_bounds, c.mark_main.auto.w, c.again_all.auto.w)))

pub returns : goal.returns
unfolding marked
returns c = rw (← c.mark_main.ensures, ← c.again_all.ensures, ← (rw c.grayagain_of.ensures at c.clear_list.ensures)) c.propagate_all.ensures
