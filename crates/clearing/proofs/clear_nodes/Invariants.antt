-- `clearing::clear_nodes` meets its contract: what is left of the loop gives the whole. Assumes nothing.
use Rattle.layout.specs.Layout.{lay_of}
use Rattle.mark.proofs.Laws.{Going}
use Rattle.clearing.specs.Entries.{clear_nth_node}
use Rattle.clearing.proofs.clear_nodes.Given as goal

abbrev pub invariant-loop-j : goal.invariant-loop-j
invariant-loop-j l = Going (clear_nth_node (lay_of l.l.sizes) l.old l.m l.q) l.n l.initial.w l.w l.j
