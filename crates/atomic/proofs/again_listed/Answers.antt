-- `atomic::again_listed` meets its contract: the callees' equations joined. Assumes nothing.
use Rattle.laid.specs.Laid.{grayagain_room_lem, laid_of}
use Rattle.atomic.specs.Atomic.{again_listed}
use Rattle.atomic.proofs.again_listed.Goals as goal

pub item_at-x-requires : goal.item_at-x-requires
item_at-x-requires c = rw c.grayagain_of.ensures (grayagain_room_lem _ _ (laid_of _ c.args.l.fits) c.requires.l_in_bounds)

pub returns : goal.returns
unfolding again_listed
returns c = rw (← (rw c.grayagain_of.ensures at c.item_at-x.ensures)) c.again_item.ensures
