-- `proto_walk::nest` meets its contract: the words are as long as the layout says, and eight numbers are put. Assumes nothing.
use native.Mathlib.Omega.{arith}
use Rattle.laid.specs.Laid.{laid_of}
use Rattle.run_walk.proofs.Laws.{parts_in}
use Rattle.proto_walk.proofs.nest.Goals as goal

pub set_proto_counts-requires : goal.set_proto_counts-requires
set_proto_counts-requires c = record { parts = parts_in (laid_of _ c.args.l.fits) (omega arith); n_bound = omega arith; constants_bound = (omega arith, omega arith) }

pub overflow_sub-n : goal.overflow_sub-n
overflow_sub-n c = omega arith

pub set_proto_child-requires : goal.set_proto_child-requires
set_proto_child-requires c = record { parts = parts_in (laid_of _ c.args.l.fits) (omega arith); n_bound = (omega arith, omega arith, omega arith) }
