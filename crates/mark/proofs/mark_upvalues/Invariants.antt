-- `mark::mark_upvalues` meets its contract: what is left of the loop gives the whole. Assumes nothing.
use Rattle.layout.specs.Layout.{lay_of}
use Rattle.mark.specs.Words.{ops}
use Rattle.mark.specs.Marking.{mark_nth_upvalue}
use Rattle.mark.proofs.Laws.{Going}
use Rattle.mark.proofs.mark_upvalues.Given as goal

abbrev pub invariant-loop-i : goal.invariant-loop-i
invariant-loop-i l = Going (mark_nth_upvalue (ops (lay_of l.l.sizes)) (lay_of l.l.sizes) l.p) l.n l.initial.w l.w l.i
