-- `run_walk::prototypes::mark_proto_constants` meets its contract: each way by its test. Assumes nothing.
use mathlib.Core.Path.{refl, ap}
use Rattle.layout.specs.Layout.{lay_of}
use Rattle.base.specs.Ways.{le_yes, le_no, eq_yes, eq_no}
use Rattle.run_walk.specs.Prototypes.{zeros, mark_proto_constants}
use Rattle.laid.specs.Laid.{protos_most, laid_of}
use Rattle.run_walk.proofs.Laws.{parts_in}
use Rattle.run_walk.proofs.prototypes.mark_proto_constants.Goals as goal

pub returns-then-l-n : goal.returns-then-l-n
unfolding mark_proto_constants lay_of
returns-then-l-n c = le_yes _ _ _ _ _ c.if-l-n.true refl

pub proto_nested-requires : goal.proto_nested-requires
unfolding lay_of
proto_nested-requires c = parts_in (laid_of _ c.args.l.fits) c.requires.l_in_bounds

pub mark_constants-requires : goal.mark_constants-requires
unfolding lay_of
mark_constants-requires c = record { l_in_bounds = c.requires.l_in_bounds; n_bound = c.if-l-n.false }

pub shape_of-w-then-proto_nested-eq0 : goal.shape_of-w-then-proto_nested-eq0
unfolding lay_of
shape_of-w-then-proto_nested-eq0 c = c.mark_constants.auto.w

pub returns-then-proto_nested-eq0 : goal.returns-then-proto_nested-eq0
unfolding mark_proto_constants lay_of
returns-then-proto_nested-eq0 c = le_no _ _ _ _ _ c.if-l-n.false (rw (← c.proto_nested.ensures.0) (eq_yes _ _ _ _ _ c.if-proto_nested-eq0.true c.mark_constants.ensures))

pub slice_bounds-mark_proto-end : goal.slice_bounds-mark_proto-end
slice_bounds-mark_proto-end c = refl

pub mark_proto-requires : goal.mark_proto-requires
unfolding lay_of
mark_proto-requires c = record { l_in_bounds = c.requires.l_in_bounds; n_bound = (c.if-l-n.false, protos_most _ (laid_of _ c.args.l.fits)) }

pub shape_of-w : goal.shape_of-w
unfolding lay_of
shape_of-w c = c.mark_proto.auto.w

pub returns : goal.returns
unfolding mark_proto_constants zeros lay_of
returns c = le_no _ _ _ _ _ c.if-l-n.false (rw (← c.proto_nested.ensures.0) (eq_no _ _ _ _ _ c.if-proto_nested-eq0.false (ap (λ x. x.0) c.mark_proto.ensures)))
