-- `pace::drive` meets its contract: what is left of the loop gives the whole. Assumes nothing.
use mathlib.Core.Path.{refl, sym, ◌∙◌}
use native.Mathlib.Omega.{arith}
use Rattle.laid.specs.Laid.{laid_of}
use Rattle.run_walk.proofs.Laws.{parts_in}
use Rattle.pace.specs.Pace.{driven}
use Rattle.pace.proofs.Laws.{drive_first, drive_through, drive_on, drive_out, drive_none}
use Rattle.pace.proofs.drive.Goals as goal

pub loop-init : goal.loop-init
loop-init c = record { rest = drive_first _ 0 _ _ _ _; long = refl; wide = refl }

pub get-requires : goal.get-requires
get-requires c = omega (arith, (parts_in (laid_of _ c.args.l.fits) c.requires.l_in_bounds).header, c.loop.invariant.long)

pub shape_of-w-then-get-end : goal.shape_of-w-then-get-end
shape_of-w-then-get-end c = c.loop.invariant.long

pub shape_of-b-then-get-end : goal.shape_of-b-then-get-end
shape_of-b-then-get-end c = c.loop.invariant.wide

pub returns-then-get-end : goal.returns-then-get-end
unfolding driven
returns-then-get-end c = sym (drive_through _ _ _ _ _ _ (rw c.steps_most-end.ensures.0 at c.loop-test.true) (rw c.get.ensures at c.if-get-end.true)) ∙ c.loop.invariant.rest

pub single_step-requires : goal.single_step-requires
single_step-requires c = record { l_in_bounds = omega (arith, c.requires.l_in_bounds, c.loop.invariant.long); l_in_bounds_2 = omega (arith, c.requires.l_in_bounds_2, c.loop.invariant.wide) }

pub hand-requires : goal.hand-requires
hand-requires c = omega (arith, (parts_in (laid_of _ c.args.l.fits) c.requires.l_in_bounds).header, c.loop.invariant.long, c.single_step.auto.w)

pub shape_of-w-in-Out : goal.shape_of-w-in-Out
shape_of-w-in-Out c = c.hand.auto.w ∙ c.single_step.auto.w ∙ c.loop.invariant.long

pub shape_of-b-in-Out : goal.shape_of-b-in-Out
shape_of-b-in-Out c = c.single_step.auto.b ∙ c.loop.invariant.wide

pub returns-in-Out : goal.returns-in-Out
unfolding driven
returns-in-Out c = rw c.hand.ensures (sym (drive_out _ _ _ _ _ _ (rw c.steps_most-end.ensures.0 at c.loop-test.true) (rw c.get.ensures at c.if-get-end.false) (rw c.in-Out.is at c.single_step.ensures.0)) ∙ c.loop.invariant.rest)

pub loop-preserved : goal.loop-preserved
loop-preserved c = record { rest = sym (drive_on _ _ _ _ _ _ (rw c.steps_most-end.ensures.0 at c.loop-test.true) (rw c.get.ensures at c.if-get-end.false) (rw c.in-Cost.is at c.single_step.ensures.0)) ∙ c.loop.invariant.rest; long = c.single_step.auto.w ∙ c.loop.invariant.long; wide = c.single_step.auto.b ∙ c.loop.invariant.wide }

pub shape_of-w : goal.shape_of-w
shape_of-w c = c.loop.invariant.long

pub shape_of-b : goal.shape_of-b
shape_of-b c = c.loop.invariant.wide

pub returns : goal.returns
unfolding driven
returns c = sym (drive_none _ _ _ _ _ _ (rw c.steps_most-end.ensures.0 at c.loop-test.false)) ∙ c.loop.invariant.rest
