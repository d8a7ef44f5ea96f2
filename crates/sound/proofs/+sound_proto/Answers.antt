-- `sound::sound_proto` meets its contract: the number falls, the turns from here on answer what all do, and what was seen is sound. Assumes nothing.
use Rattle.std.proofs.Common.{arith, ◌∙◌, refl, sym, length-set}
use Rattle.laid.specs.Laid.{parts_room, laid_of}
use Rattle.making.specs.Turns.{turns_start, turns_end, each_again, each_stop}
use Rattle.sound.proofs.Laws.{added_none, child_below, child_skipped, constants_unsound, proto_looked, known_seen, known_child, grown_same, grown_no, grown_all, added_more}
use Rattle.sound.proofs.+sound_proto.Goals.{then-q-n+else-not-sound_proto, else-q-n}
use Rattle.sound.proofs.+sound_proto.Goals as goal

pub returns-then-seen-n-gt0 : goal.returns-then-seen-n-gt0
returns-then-seen-n-gt0 t c = (known_seen _ _ _ _ c.requires.known c.if-seen-n-gt0.true, grown_same _ _ _ _)

pub returns-then-not-constants_sound : goal.returns-then-not-constants_sound
returns-then-not-constants_sound t c = (constants_unsound _ _ _ (sym c.constants_sound.ensures ∙ c.if-not-constants_sound.true), grown_no _ _ _ _)

pub proto_nested-m-requires : goal.proto_nested-m-requires
proto_nested-m-requires t c = parts_room _ c.args.w.now (laid_of _ c.args.l.fits) c.requires.l_in_bounds

pub loop-j-init : goal.loop-j-init
loop-j-init t c = record { rest = turns_start _ _ _ _ refl; new = added_none _ _ _; full = refl }

pub proto_child-q-requires-clause-parts : goal.proto_child-q-requires-clause-parts
proto_child-q-requires-clause-parts t c = parts_room _ c.args.w.now (laid_of _ c.args.l.fits) c.requires.l_in_bounds

pub sound_proto-requires : goal.sound_proto-requires
sound_proto-requires t c = (
  rw (← c.decreases) c.if-q-n.true,
  (
    c.requires.l_in_bounds,
    (
      (omega (arith, c.requires.n_bound.0, c.if-q-n.true), omega (arith, c.requires.n_bound.1, rw length-set at c.loop-j.invariant.full)),
      known_child _ _ _ _ _ _ c.requires.known c.loop-j.invariant.new c.if-q-n.true,
    ),
  ),
)

pub returns-then-not-sound_proto : goal.returns-then-not-sound_proto
returns-then-not-sound_proto t c = (
  proto_looked _ _ _ (sym c.constants_sound.ensures ∙ c.if-not-constants_sound.false) c.proto_nested-m.ensures.0
      (each_stop _ _ _ c.loop-j.invariant.rest c.loop-j-test.true (sym (child_below _ _ _ _ c.proto_child-q.ensures.0 c.if-q-n.true c.sound_proto.ensures.0) ∙ c.if-not-sound_proto.true)),
  grown_no _ _ _ _,
)

pub loop-j-preserved : goal.loop-j-preserved
loop-j-preserved t c =
    elim c.if-q-n.branch [
      | then-q-n+else-not-sound_proto w ↦ record {
        rest = each_again _ _ _ c.loop-j.invariant.rest c.loop-j-test.true (sym (child_below _ _ _ _ c.proto_child-q.ensures.0 w.if-q-n.true w.sound_proto.ensures.0) ∙ w.if-not-sound_proto.false);
        new = rw w.seen-is (added_more _ _ _ _ _ _ w.sound_proto.ensures.1 w.if-not-sound_proto.false c.loop-j.invariant.new);
        full = omega (arith, c.if-q-n.auto.seen, c.loop-j.invariant.full);
      }
      | else-q-n w ↦ record {
        rest = each_again _ _ _ c.loop-j.invariant.rest c.loop-j-test.true (sym (child_skipped _ _ _ _ c.proto_child-q.ensures.0 w.if-q-n.false));
        new = rw w.seen-is c.loop-j.invariant.new;
        full = omega (arith, c.if-q-n.auto.seen, c.loop-j.invariant.full);
      }
    ]

pub returns : goal.returns
returns t c =
    let whole = proto_looked _ _ _ (sym c.constants_sound.ensures ∙ c.if-not-constants_sound.false) c.proto_nested-m.ensures.0 (turns_end _ _ _ _ c.loop-j.invariant.rest c.loop-j-test.false) in
    (whole, grown_all _ _ _ _ _ whole c.loop-j.invariant.new)
