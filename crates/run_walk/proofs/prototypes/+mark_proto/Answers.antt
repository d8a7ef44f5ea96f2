-- `run_walk::prototypes::mark_proto` meets its contract: the number falls, and what is left of the loop gives the whole. Assumes nothing.
use Rattle.std.proofs.Common.{arith}
use Rattle.base.specs.Loop.{run_again, run_end}
use Rattle.laid.specs.Laid.{laid_of}
use Rattle.run_walk.proofs.Laws.{nested_below, nested_skipped, parts_in, proto_seen, proto_walked}
use Rattle.run_walk.proofs.prototypes.+mark_proto.Goals.{then-q-n, else-q-n}
use Rattle.run_walk.proofs.prototypes.+mark_proto.Goals as goal

pub returns-then-seen-n-gt0 : goal.returns-then-seen-n-gt0
returns-then-seen-n-gt0 t c = proto_seen _ _ _ _ c.if-seen-n-gt0.true

pub proto_nested-m-requires : goal.proto_nested-m-requires
proto_nested-m-requires t c = parts_in (laid_of _ c.args.l.fits) (omega (arith, c.requires.l_in_bounds, c.mark_constants.auto.w))

pub proto_child-q-requires-clause-parts : goal.proto_child-q-requires-clause-parts
proto_child-q-requires-clause-parts t c = parts_in (laid_of _ c.args.l.fits) (omega (arith, c.requires.l_in_bounds, c.mark_constants.auto.w, c.loop-j.invariant.long))

pub loop-j-preserved : goal.loop-j-preserved
loop-j-preserved t c =
    elim c.if-q-n.branch [
      | then-q-n w ↦ record {
        rest = run_again _ c.loop-j.invariant.rest c.loop-j-test.true (nested_below _ _ _ _ _ _ c.proto_child-q.ensures.0 w.if-q-n.true (rw (w.w-is, w.seen-is) w.mark_proto.ensures));
        long = omega (arith, c.if-q-n.auto.w, c.loop-j.invariant.long);
        full = omega (arith, c.if-q-n.auto.seen, c.loop-j.invariant.full);
      }
      | else-q-n w ↦ record {
        rest = run_again _ c.loop-j.invariant.rest c.loop-j-test.true (nested_skipped _ _ _ _ _ _ c.proto_child-q.ensures.0 w.if-q-n.false (rw (w.w-is, w.seen-is)));
        long = omega (arith, c.if-q-n.auto.w, c.loop-j.invariant.long);
        full = omega (arith, c.if-q-n.auto.seen, c.loop-j.invariant.full);
      }
    ]

pub returns : goal.returns
returns t c = proto_walked _ _ _ _ _ c.if-seen-n-gt0.false c.mark_constants.ensures c.proto_nested-m.ensures.0 (run_end _ c.loop-j.invariant.rest c.loop-j-test.false)
