-- `propagate::propagate_all` meets its contract: what is left of the loop gives the whole. Assumes nothing.
use Rattle.std.proofs.Common.{ap, not}
use mathlib.Core.Path.{refl, ◌∙◌}
use native.Mathlib.Omega.{arith}
use Rattle.propagate.specs.Propagation.{propagate_all}
use Rattle.propagate.proofs.Laws.{all_first, all_stops, all_goes, all_over}
use Rattle.propagate.proofs.propagate_all.Goals as goal

pub loop-init : goal.loop-init
loop-init c = record { rest = all_first _ _ _ _ _; long = refl }

pub propagate_one-requires : goal.propagate_one-requires
propagate_one-requires c = record { l_in_bounds = omega (arith, c.requires.l_in_bounds, c.loop.invariant.long); l_in_bounds_2 = c.requires.l_in_bounds_2 }

pub shape_of-w-then-not-goes_on : goal.shape_of-w-then-not-goes_on
shape_of-w-then-not-goes_on c = c.propagate_one.auto.w ∙ c.loop.invariant.long

pub returns-then-not-goes_on : goal.returns-then-not-goes_on
unfolding propagate_all
returns-then-not-goes_on c = all_stops _ _ _ _ _ _ (rw c.rounds-end.ensures.0 at c.loop-test.true) c.propagate_one.ensures.0 c.goes_on.ensures (ap not c.if-not-goes_on.true) ∙ c.loop.invariant.rest

pub loop-preserved : goal.loop-preserved
loop-preserved c = record { rest = all_goes _ _ _ _ _ _ (rw c.rounds-end.ensures.0 at c.loop-test.true) c.propagate_one.ensures.0 c.goes_on.ensures (ap not c.if-not-goes_on.false) ∙ c.loop.invariant.rest; long = c.propagate_one.auto.w ∙ c.loop.invariant.long }

pub shape_of-w : goal.shape_of-w
shape_of-w c = c.loop.invariant.long

pub returns : goal.returns
unfolding propagate_all
returns c = all_over _ _ _ _ _ _ (rw c.rounds-end.ensures.0 at c.loop-test.false) ∙ c.loop.invariant.rest
