-- `pace::drive` meets its contract: what is left of the loop gives the whole. Assumes nothing.
use Rattle.layout.specs.Layout.{lay_of}
use Rattle.pace.specs.Pace.{steps_most}
use Rattle.pace.proofs.Laws.{Driving}
use Rattle.pace.proofs.drive.Given as goal

abbrev pub invariant-loop : goal.invariant-loop
invariant-loop l = Driving (lay_of l.l.sizes) l.kind (steps_most (lay_of l.l.sizes)) l.fn.end l.initial.w l.initial.b l.w l.b l.counter
