-- `propagate::barrier_back` meets its contract: each way by its test. Assumes nothing.
use mathlib.Core.Path.{refl, ◌∙◌}
use native.Mathlib.Omega.{arith}
use Rattle.base.specs.Ways.{eq_yes, eq_no}
use Rattle.laid.specs.Laid.{tables_room, grayagain_room_lem, laid_of}
use Rattle.mark.specs.Shades.{named_in}
use Rattle.run_walk.proofs.Laws.{parts_in}
use Rattle.propagate.specs.Barriers.{barrier_back}
use Rattle.propagate.proofs.barrier_back.Goals as goal

pub get-requires : goal.get-requires
get-requires c = omega (arith, (parts_in (laid_of _ c.args.l.fits) c.requires.l_in_bounds).header)

pub shape_of-w-then-get-ne1 : goal.shape_of-w-then-get-ne1
shape_of-w-then-get-ne1 c = refl

pub returns-then-get-ne1 : goal.returns-then-get-ne1
unfolding barrier_back
returns-then-get-ne1 c = rw (← c.get.ensures) (eq_no _ _ _ _ _ c.if-get-ne1.true refl)

pub shade-requires : goal.shade-requires
shade-requires c = rw c.tables_of-tables.ensures (tables_room _ _ (laid_of _ c.args.l.fits) c.requires.l_in_bounds)

pub shape_of-w-then-shade-ne4 : goal.shape_of-w-then-shade-ne4
shape_of-w-then-shade-ne4 c = refl

pub returns-then-shade-ne4 : goal.returns-then-shade-ne4
unfolding barrier_back
returns-then-shade-ne4 c = rw (← c.get.ensures) (eq_yes _ _ _ _ _ c.if-get-ne1.false (rw (← (rw c.tables_of-tables.ensures at c.shade.ensures)) (eq_no _ _ _ _ _ c.if-shade-ne4.true refl)))

pub set_colour-requires : goal.set_colour-requires
set_colour-requires c = record { room = rw c.tables_of-tables.ensures (tables_room _ _ (laid_of _ c.args.l.fits) c.requires.l_in_bounds); i_lt_slots = rw c.tables_of-tables.ensures (omega (arith, c.wide.ensures.0, named_in _ _ _ _ ((rw c.tables_of-tables.ensures at c.shade.ensures)) (λ z. omega (arith, z, c.if-shade-ne4.false)))) }

pub push-requires : goal.push-requires
push-requires c = rw c.grayagain_of.ensures (grayagain_room_lem _ _ (laid_of _ c.args.l.fits) (omega (arith, c.requires.l_in_bounds, c.set_colour.auto.w)))

pub shape_of-w : goal.shape_of-w
shape_of-w c = c.push.auto.w ∙ c.set_colour.auto.w

pub returns : goal.returns
unfolding barrier_back
returns c = rw (← c.get.ensures) (eq_yes _ _ _ _ _ c.if-get-ne1.false (rw (← (rw c.tables_of-tables.ensures at c.shade.ensures)) (eq_yes _ _ _ _ _ c.if-shade-ne4.false (rw (← (rw c.wide.ensures.0 at ((rw c.tables_of-tables.ensures at c.set_colour.ensures)))) ((rw c.grayagain_of.ensures at c.push.ensures))))))
