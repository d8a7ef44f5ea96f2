-- `make_protos::nest_one` meets its contract: the callees' equations joined. Assumes nothing.
use native.Mathlib.Omega.{arith}
use Rattle.laid.specs.Laid.{parts_room, protos_most, laid_of}
use Rattle.make_protos.specs.Making.{Below, nest_one}
use Rattle.make_protos.proofs.nest_one.Goals as goal

pub set_proto_child-requires : goal.set_proto_child-requires
unfolding Below
set_proto_child-requires c = record { parts = parts_room _ c.args.w.now (laid_of _ c.args.l.fits) c.requires.l_in_bounds; n_bound = (c.requires.n_bound.0, c.requires.n_bound.1, omega (arith, c.requires.below _ c.requires.n_bound.2, c.get.ensures, c.wide-q.ensures.0, protos_most _ (laid_of _ c.args.l.fits))) }

pub overflow_add-n : goal.overflow_add-n
overflow_add-n c = omega (arith, c.requires.n_bound.0, protos_most _ (laid_of _ c.args.l.fits))

pub set_proto_parent-requires : goal.set_proto_parent-requires
unfolding Below
set_proto_parent-requires c = record { parts = rw c.set_proto_child.auto.w (parts_room _ c.args.w.now (laid_of _ c.args.l.fits) c.requires.l_in_bounds); n_bound = (omega (arith, c.requires.below _ c.requires.n_bound.2, c.get.ensures, c.wide-q.ensures.0), omega (arith, c.requires.n_bound.0, protos_most _ (laid_of _ c.args.l.fits))) }

pub returns : goal.returns
unfolding nest_one
returns c = rw (← c.get.ensures, ← c.wide-q.ensures.0, ← c.set_proto_child.ensures) c.set_proto_parent.ensures
