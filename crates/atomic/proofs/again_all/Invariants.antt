-- `atomic::again_all` meets its contract: what is left of the loop gives the whole. Assumes nothing.
use Rattle.layout.specs.Layout.{lay_of}
use Rattle.mark.proofs.Laws.{Going}
use Rattle.atomic.specs.Atomic.{again_listed}
use Rattle.atomic.proofs.again_all.Given as goal

abbrev pub invariant-loop-k : goal.invariant-loop-k
invariant-loop-k l = Going (again_listed (lay_of l.l.sizes) l.b) l.n l.initial.w l.w l.k
