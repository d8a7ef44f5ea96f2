-- `propagate::mark_types` meets its contract: what is left of the loop gives the whole. Assumes nothing.
use Rattle.layout.specs.Layout.{lay_of}
use Rattle.mark.specs.Words.{ops}
use Rattle.mark.proofs.Laws.{Going}
use Rattle.propagate.specs.Roots.{mark_type}
use Rattle.propagate.proofs.mark_types.Given as goal

abbrev pub invariant-loop-k : goal.invariant-loop-k
invariant-loop-k l = Going (mark_type (ops (lay_of l.l.sizes))) 9 l.initial.w l.w l.k
