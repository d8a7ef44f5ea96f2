-- `table_walk::mark_nodes` meets its contract: what is left of the loop gives the whole. Assumes nothing.
use Rattle.layout.specs.Layout.{lay_of}
use Rattle.mark.specs.Words.{ops}
use Rattle.mark.proofs.Laws.{Going}
use Rattle.table_walk.specs.Tables.{mark_nth_node}
use Rattle.table_walk.proofs.mark_nodes.Given as goal

abbrev pub invariant-loop-j : goal.invariant-loop-j
invariant-loop-j l = Going (mark_nth_node (ops (lay_of l.l.sizes)) (lay_of l.l.sizes) l.m l.q) l.n l.initial.w l.w l.j
