-- `clearing::keep_all` meets its contract: what is left of the loop gives the whole. Assumes nothing.
use Rattle.layout.specs.Layout.{lay_of}
use Rattle.mark.proofs.Laws.{Going}
use Rattle.clearing.specs.Strings.{keep_listed}
use Rattle.clearing.proofs.keep_all.Given as goal

abbrev pub invariant-loop-k : goal.invariant-loop-k
invariant-loop-k l = Going (keep_listed (lay_of l.l.sizes) l.white) l.n l.initial.w l.w l.k
