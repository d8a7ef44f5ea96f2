-- `pace::budgeted` meets its contract: what is left of the loop gives the whole. Assumes nothing.
use mathlib.Core.Path.{refl, sym, ◌∙◌}
use native.Mathlib.Omega.{arith}
use Rattle.pace.specs.Pace.{budgeted}
use Rattle.pace.proofs.Laws.{turn_first, turn_on, turn_over, turn_none}
use Rattle.pace.proofs.budgeted.Goals as goal

pub loop-init : goal.loop-init
loop-init c = record { rest = turn_first _ 0 _ _ _ _; long = refl; wide = refl }

pub turn-requires : goal.turn-requires
turn-requires c = record { l_in_bounds = omega (arith, c.requires.l_in_bounds, c.loop.invariant.long); l_in_bounds_2 = omega (arith, c.requires.l_in_bounds_2, c.loop.invariant.wide) }

pub shape_of-w-in-Break : goal.shape_of-w-in-Break
shape_of-w-in-Break c = c.turn.auto.w ∙ c.loop.invariant.long

pub shape_of-b-in-Break : goal.shape_of-b-in-Break
shape_of-b-in-Break c = c.turn.auto.b ∙ c.loop.invariant.wide

pub returns-in-Break : goal.returns-in-Break
unfolding budgeted
returns-in-Break c = sym (turn_over _ _ _ _ _ _ (rw c.steps_most-end.ensures.0 at c.loop-test.true) (rw c.in-Break.is at c.turn.ensures)) ∙ c.loop.invariant.rest

pub loop-preserved : goal.loop-preserved
loop-preserved c = record { rest = sym (turn_on _ _ _ _ _ _ (rw c.steps_most-end.ensures.0 at c.loop-test.true) (rw c.in-Continue.is at c.turn.ensures)) ∙ c.loop.invariant.rest; long = c.turn.auto.w ∙ c.loop.invariant.long; wide = c.turn.auto.b ∙ c.loop.invariant.wide }

pub shape_of-w : goal.shape_of-w
shape_of-w c = c.loop.invariant.long

pub shape_of-b : goal.shape_of-b
shape_of-b c = c.loop.invariant.wide

pub returns : goal.returns
unfolding budgeted
returns c = sym (turn_none _ _ _ _ _ _ (rw c.steps_most-end.ensures.0 at c.loop-test.false)) ∙ c.loop.invariant.rest
