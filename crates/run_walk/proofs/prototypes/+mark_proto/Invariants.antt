-- `run_walk::prototypes::mark_proto` meets its contract: the number falls, and what is left of the loop gives the whole. Assumes nothing.
use Rattle.std.proofs.Common.{◌-◌}
use Rattle.layout.specs.Layout.{lay_of}
use Rattle.mark.specs.Words.{ops}
use Rattle.run_walk.proofs.Laws.{Nested}
use Rattle.run_walk.specs.Prototypes.{nested_one, below}
use Rattle.run_walk.proofs.prototypes.+mark_proto.Given as goal

abbrev pub decreases-mark_proto : goal.decreases-mark_proto
decreases-mark_proto l = l.n

abbrev pub invariant-loop-j : goal.invariant-loop-j
invariant-loop-j l = Nested (nested_one (ops (lay_of l.l.sizes)) (lay_of l.l.sizes) (below (ops (lay_of l.l.sizes)) (lay_of l.l.sizes) l.n) l.n) l.m l.initial.w l.initial.seen l.w l.seen l.j

abbrev pub decreases-loop-j : goal.decreases-loop-j
decreases-loop-j l = l.m - l.j
