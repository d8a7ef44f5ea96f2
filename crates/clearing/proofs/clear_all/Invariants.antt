-- `clearing::clear_all` meets its contract: what is left of the loop gives the whole. Assumes nothing.
use Rattle.layout.specs.Layout.{lay_of}
use Rattle.mark.proofs.Laws.{Going}
use Rattle.clearing.specs.Entries.{clear_listed}
use Rattle.clearing.proofs.clear_all.Given as goal

abbrev pub invariant-loop-k : goal.invariant-loop-k
invariant-loop-k l = Going (clear_listed (lay_of l.l.sizes) l.b l.old) l.n l.initial.w l.w l.k
