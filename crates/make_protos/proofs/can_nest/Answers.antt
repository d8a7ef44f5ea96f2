-- `make_protos::can_nest` meets its contract: each way by its test. Assumes nothing.
use mathlib.Core.Path.{refl}
use native.Mathlib.Omega.{arith}
use Rattle.base.specs.Ways.{le_no, le_yes, lt_no, lt_yes}
use Rattle.laid.specs.Laid.{parts_room, laid_of}
use Rattle.make_protos.specs.Making.{can_nest}
use Rattle.make_protos.proofs.can_nest.Goals as goal

pub protos_used-requires : goal.protos_used-requires
protos_used-requires c = parts_room _ c.args.w.now (laid_of _ c.args.l.fits) c.requires.l_in_bounds

pub returns-then-protos_used-n : goal.returns-then-protos_used-n
unfolding can_nest
returns-then-protos_used-n c = rw (← c.get.ensures, ← c.wide-n.ensures.0, ← c.protos_used.ensures.0) (le_yes _ _ _ _ _ c.if-protos_used-n.true refl)

pub proto_parent-requires : goal.proto_parent-requires
proto_parent-requires c = record { parts = parts_room _ c.args.w.now (laid_of _ c.args.l.fits) c.requires.l_in_bounds; n_bound = omega (arith, c.if-protos_used-n.false, c.protos_used.ensures.1) }

pub returns-then-proto_parent-gt0 : goal.returns-then-proto_parent-gt0
unfolding can_nest
returns-then-proto_parent-gt0 c = rw (← c.get.ensures, ← c.wide-n.ensures.0, ← c.protos_used.ensures.0) (le_no _ _ _ _ _ c.if-protos_used-n.false (rw (← c.proto_parent.ensures.0) (lt_yes _ _ _ _ _ c.if-proto_parent-gt0.true refl)))

pub returns : goal.returns
unfolding can_nest
returns c = rw (← c.get.ensures, ← c.wide-n.ensures.0, ← c.protos_used.ensures.0) (le_no _ _ _ _ _ c.if-protos_used-n.false (rw (← c.proto_parent.ensures.0) (lt_no _ _ _ _ _ c.if-proto_parent-gt0.false c.is_first.ensures)))
