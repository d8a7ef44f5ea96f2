-- `propagate::propagate_all` meets its contract: what is left of the loop gives the whole. Assumes nothing.
use Rattle.layout.specs.Layout.{lay_of}
use Rattle.propagate.specs.Propagation.{rounds}
use Rattle.propagate.proofs.Laws.{Steps}
use Rattle.propagate.proofs.propagate_all.Given as goal

abbrev pub invariant-loop : goal.invariant-loop
invariant-loop l = Steps (lay_of l.l.sizes) l.b (rounds (lay_of l.l.sizes)) l.initial.w l.w l.counter
