-- `layout::plan` meets its contract: from what its callees promise. Assumes nothing.
use mathlib.Core.Path.{sym, ◌∙◌}
use Rattle.layout.specs.Layout.{planned}
use Rattle.layout.specs.Sizes.{sizes_fit_ok}
use Rattle.layout.proofs.plan.Goals as goal

pub returns-then-not-sizes_fit : goal.returns-then-not-sizes_fit
unfolding planned
returns-then-not-sizes_fit c = rw (← c.sizes_fit.ensures, c.if-not-sizes_fit.true)

pub invariant_of-result : goal.invariant_of-result
invariant_of-result c = record { fits = sizes_fit_ok _ (sym c.sizes_fit.ensures ∙ c.if-not-sizes_fit.false) }

pub returns : goal.returns
unfolding planned
returns c = rw (← c.sizes_fit.ensures, c.if-not-sizes_fit.false)
