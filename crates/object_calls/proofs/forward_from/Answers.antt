-- `object_calls::forward_from` meets its contract: the callees' equations joined. Assumes nothing.
use Rattle.laid.specs.Laid.{userdata_room, laid_of}
use Rattle.object_calls.specs.ObjectCalls.{forward_from}
use Rattle.object_calls.proofs.forward_from.Goals as goal

pub shade-c-requires : goal.shade-c-requires
shade-c-requires c = rw c.userdata_of.ensures (userdata_room _ _ (laid_of _ c.args.l.fits) c.requires.l_in_bounds)

pub returns : goal.returns
unfolding forward_from
returns c = rw (← (rw c.userdata_of.ensures at c.shade-c.ensures)) c.forward_table.ensures
