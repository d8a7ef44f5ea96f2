-- `proto_walk::nest_all` meets its contract: the measure is the prototypes that are left. Assumes nothing.
use Rattle.layout.specs.Layout.{lay_of}
use Rattle.proto_walk.proofs.nest_all.Goals as goal

pub nest-requires : goal.nest-requires
unfolding lay_of
nest-requires c = record { l_bound = c.requires.l_bound; n_nonzero = (c.loop-n.invariant, c.loop-n-test.true, c.if-l-n.false) }
