-- `proto_walk::make_closure` meets its contract: the slot that was taken is one of the functions. Assumes nothing.
use native.Mathlib.Omega.{arith}
use Rattle.laid.specs.Laid.{functions_room, laid_of}
use Rattle.proto_walk.proofs.make_closure.Goals as goal

pub take_slot-requires : goal.take_slot-requires
take_slot-requires g c = rw c.functions_of.ensures (functions_room _ _ (laid_of _ c.args.l.fits) (omega arith))

pub push_closure-requires : goal.push_closure-requires
push_closure-requires g c = record { l_bound = c.requires.l_bound; i_bound = rw c.in-Ok.is at (rw c.functions_of.ensures at c.take_slot.ensures).1 }
