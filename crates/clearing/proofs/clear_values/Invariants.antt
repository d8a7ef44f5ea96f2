-- `clearing::clear_values` meets its contract: what is left of the loop gives the whole. Assumes nothing.
use Rattle.layout.specs.Layout.{lay_of}
use Rattle.mark.proofs.Laws.{Going}
use Rattle.clearing.specs.Entries.{clear_nth}
use Rattle.clearing.proofs.clear_values.Given as goal

abbrev pub invariant-loop-i : goal.invariant-loop-i
invariant-loop-i l = Going (clear_nth (lay_of l.l.sizes) l.old l.p) l.n l.initial.w l.w l.i
