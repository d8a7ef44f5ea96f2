-- `proto_walk::put_constant` meets its contract: the words are as long as the layout says. Assumes nothing.
use native.Mathlib.Omega.{arith}
use Rattle.layout.specs.Layout.{lay_of}
use Rattle.laid.specs.Laid.{strings_room, laid_of}
use Rattle.run_walk.proofs.Laws.{parts_in}
use Rattle.proto_walk.proofs.put_constant.Goals as goal

pub take_slot-requires : goal.take_slot-requires
unfolding lay_of
take_slot-requires g c = rw c.strings_of.ensures (strings_room _ _ (laid_of _ c.args.l.fits) (omega arith))

pub set_proto_counts-requires : goal.set_proto_counts-requires
unfolding lay_of
set_proto_counts-requires g c = record { parts = parts_in (laid_of _ c.args.l.fits) (omega arith); n_bound = omega arith; constants_bound = (omega arith, omega arith) }

pub set_proto_constant-requires : goal.set_proto_constant-requires
unfolding lay_of
set_proto_constant-requires g c = record { parts = parts_in (laid_of _ c.args.l.fits) (omega arith); n_bound = (omega arith, omega arith) }
