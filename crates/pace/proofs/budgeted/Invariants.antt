-- `pace::budgeted` meets its contract: what is left of the loop gives the whole. Assumes nothing.
use Rattle.layout.specs.Layout.{lay_of}
use Rattle.pace.specs.Pace.{steps_most}
use Rattle.pace.proofs.Laws.{Budgeting}
use Rattle.pace.proofs.budgeted.Given as goal

abbrev pub invariant-loop : goal.invariant-loop
invariant-loop l = Budgeting (lay_of l.l.sizes) l.kind (steps_most (lay_of l.l.sizes)) l.budget l.initial.w l.initial.b l.w l.b l.left l.counter
