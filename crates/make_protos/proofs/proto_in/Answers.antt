-- `make_protos::proto_in` meets its contract: each way by its test. Assumes nothing.
use mathlib.Core.Path.{◌∙◌, refl, sym}
use native.Mathlib.Omega.{arith}
use lib.ListN.{length}
use Rattle.layout.specs.Layout.{lay_of}
use Rattle.base.specs.Ways.{le_no, le_yes}
use Rattle.laid.specs.Laid.{parts_room, protos_most, laid_of}
use Rattle.make_protos.specs.Making.{lengths_most, nestable_below, proto_in}
use Rattle.make_protos.proofs.proto_in.Goals as goal

pub returns-then-not-lengths_fit : goal.returns-then-not-lengths_fit
unfolding proto_in lay_of
returns-then-not-lengths_fit c = rw (← c.lengths_fit.ensures, c.if-not-lengths_fit.true)

pub returns-then-not-are_nestable : goal.returns-then-not-are_nestable
unfolding proto_in lay_of
returns-then-not-are_nestable c = rw (← c.lengths_fit.ensures, c.if-not-lengths_fit.false, ← c.are_nestable.ensures, c.if-not-are_nestable.true)

pub returns-then-not-are_sound : goal.returns-then-not-are_sound
unfolding proto_in lay_of
returns-then-not-are_sound c = rw (← c.lengths_fit.ensures, c.if-not-lengths_fit.false, ← c.are_nestable.ensures, c.if-not-are_nestable.false, ← c.are_sound.ensures, c.if-not-are_sound.true)

pub protos_used-n-requires : goal.protos_used-n-requires
unfolding lay_of
protos_used-n-requires c = parts_room _ c.args.w.now (laid_of _ c.args.l.fits) c.requires.l_in_bounds

pub returns-then-l-n : goal.returns-then-l-n
unfolding proto_in lay_of
returns-then-l-n c = rw (← c.lengths_fit.ensures, c.if-not-lengths_fit.false, ← c.are_nestable.ensures, c.if-not-are_nestable.false, ← c.are_sound.ensures, c.if-not-are_sound.false, ← c.protos_used-n.ensures.0) (le_yes _ _ _ _ _ c.if-l-n.true refl)

pub put_proto-requires : goal.put_proto-requires
unfolding lay_of
put_proto-requires c = record { l_in_bounds = c.requires.l_in_bounds; n_bound = (c.if-l-n.false, (lengths_most (length c.args.constants.now) (length c.args.nested.now) (sym c.lengths_fit.ensures ∙ c.if-not-lengths_fit.false)).0, (lengths_most (length c.args.constants.now) (length c.args.nested.now) (sym c.lengths_fit.ensures ∙ c.if-not-lengths_fit.false)).1); below = nestable_below _ _ _ (sym c.are_nestable.ensures ∙ c.if-not-are_nestable.false) }

pub overflow_cast-result : goal.overflow_cast-result
unfolding lay_of
overflow_cast-result c = omega (arith, c.if-l-n.false, protos_most _ (laid_of _ c.args.l.fits))

pub returns : goal.returns
unfolding proto_in lay_of
returns c = rw (← c.lengths_fit.ensures, c.if-not-lengths_fit.false, ← c.are_nestable.ensures, c.if-not-are_nestable.false, ← c.are_sound.ensures, c.if-not-are_sound.false, ← c.protos_used-n.ensures.0) (le_no _ _ _ _ _ c.if-l-n.false (rw (← c.put_proto.ensures)))
