-- `propagate::propagate_one` meets its contract: the callees' equations joined. Assumes nothing.
use mathlib.Core.Path.{◌∙◌}
use native.Mathlib.Omega.{arith}
use Prim.{tt}
use Rattle.laid.specs.Laid.{gray_room_lem, laid_of}
use Rattle.propagate.specs.Propagation.{propagate_one}
use Rattle.propagate.proofs.propagate_one.Goals as goal

pub pop-requires : goal.pop-requires
pop-requires c = rw c.gray_of.ensures (gray_room_lem _ _ (laid_of _ c.args.l.fits) c.requires.l_in_bounds)

pub propagate_item-requires : goal.propagate_item-requires
propagate_item-requires c = record { l_in_bounds = omega (arith, c.requires.l_in_bounds, c.pop.auto.w); l_in_bounds_2 = c.requires.l_in_bounds_2 }

pub shape_of-w-in-Some : goal.shape_of-w-in-Some
shape_of-w-in-Some c = c.propagate_item.auto.w ∙ c.pop.auto.w

pub returns-in-Some : goal.returns-in-Some
unfolding propagate_one
returns-in-Some c = (rw (← (rw c.gray_of.ensures at c.pop.ensures), c.in-Some.is) c.propagate_item.ensures.0, c.propagate_item.ensures.1)

pub shape_of-w-in-None : goal.shape_of-w-in-None
shape_of-w-in-None c = c.pop.auto.w

pub returns-in-None : goal.returns-in-None
unfolding propagate_one
returns-in-None c = (rw (← (rw c.gray_of.ensures at c.pop.ensures), c.in-None.is), tt)
