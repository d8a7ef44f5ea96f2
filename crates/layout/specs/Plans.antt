-- A plan is its sizes, which lie within their ranges; an answer that gives a plan gives its sizes. Assumes nothing.
use Rattle.std.specs.Prelude.{Ok, Err, Result}
use Rattle.base.specs.declared.Refusal.{Refusal}
use Rattle.layout.specs.declared.Sizes.{Sizes}
use Rattle.layout.specs.declared.plans.Plan.{Plan}

abbrev pub sizes_given : Result Plan Refusal → Result Sizes Refusal
sizes_given (Ok l) = Ok l.sizes
sizes_given (Err n) = Err n
