-- `propagate::barrier_forward` meets its contract: each way by its test. Assumes nothing.
use mathlib.Core.Path.{refl}
use native.Mathlib.Omega.{arith}
use Rattle.base.specs.Ways.{eq_yes, eq_no}
use Rattle.laid.specs.Laid.{laid_of}
use Rattle.run_walk.proofs.Laws.{parts_in}
use Rattle.propagate.specs.Barriers.{barrier_forward}
use Rattle.propagate.proofs.barrier_forward.Goals as goal

pub get-requires : goal.get-requires
get-requires c = omega (arith, (parts_in (laid_of _ c.args.l.fits) c.requires.l_in_bounds).header)

pub shape_of-w-then-get-ne1 : goal.shape_of-w-then-get-ne1
shape_of-w-then-get-ne1 c = refl

pub returns-then-get-ne1 : goal.returns-then-get-ne1
unfolding barrier_forward
returns-then-get-ne1 c = rw (← c.get.ensures) (eq_no _ _ _ _ _ c.if-get-ne1.true refl)

pub shape_of-w-then-parent-ne4 : goal.shape_of-w-then-parent-ne4
shape_of-w-then-parent-ne4 c = refl

pub returns-then-parent-ne4 : goal.returns-then-parent-ne4
unfolding barrier_forward
returns-then-parent-ne4 c = rw (← c.get.ensures) (eq_yes _ _ _ _ _ c.if-get-ne1.false (eq_no _ _ _ _ _ c.if-parent-ne4.true refl))

pub value_colour-requires : goal.value_colour-requires
value_colour-requires c = record { l_in_bounds = c.requires.l_in_bounds }

pub get-requires-2 : goal.get-requires-2
get-requires-2 c = omega (arith, (parts_in (laid_of _ c.args.l.fits) c.requires.l_in_bounds).header)

pub shape_of-w-then-value_colour-get : goal.shape_of-w-then-value_colour-get
shape_of-w-then-value_colour-get c = refl

pub returns-then-value_colour-get : goal.returns-then-value_colour-get
unfolding barrier_forward
returns-then-value_colour-get c = rw (← c.get.ensures) (eq_yes _ _ _ _ _ c.if-get-ne1.false (eq_yes _ _ _ _ _ c.if-parent-ne4.false (rw (← c.value_colour.ensures, ← c.get-2.ensures) (eq_no _ _ _ _ _ c.if-value_colour-get.true refl))))

pub mark_value-requires : goal.mark_value-requires
mark_value-requires c = record { l_in_bounds = c.requires.l_in_bounds }

pub shape_of-w : goal.shape_of-w
shape_of-w c = c.mark_value.auto.w

pub returns : goal.returns
unfolding barrier_forward
returns c = rw (← c.get.ensures) (eq_yes _ _ _ _ _ c.if-get-ne1.false (eq_yes _ _ _ _ _ c.if-parent-ne4.false (rw (← c.value_colour.ensures, ← c.get-2.ensures) (eq_yes _ _ _ _ _ c.if-value_colour-get.false c.mark_value.ensures))))
