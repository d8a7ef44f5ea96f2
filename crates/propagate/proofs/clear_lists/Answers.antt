-- `propagate::clear_lists` meets its contract: the callees' equations joined. Assumes nothing.
use mathlib.Core.Path.{◌∙◌}
use native.Mathlib.Omega.{arith}
use Rattle.laid.specs.Laid.{gray_room_lem, grayagain_room_lem, weak_room_lem, laid_of}
use Rattle.propagate.specs.Roots.{clear_lists}
use Rattle.propagate.proofs.clear_lists.Goals as goal

pub clear_list-requires : goal.clear_list-requires
clear_list-requires c = rw c.gray_of.ensures (gray_room_lem _ _ (laid_of _ c.args.l.fits) c.requires.l_in_bounds)

pub clear_list-requires-2 : goal.clear_list-requires-2
clear_list-requires-2 c = rw c.grayagain_of.ensures (grayagain_room_lem _ _ (laid_of _ c.args.l.fits) (omega (arith, c.requires.l_in_bounds, c.clear_list.auto.w)))

pub clear_list-requires-3 : goal.clear_list-requires-3
clear_list-requires-3 c = rw c.weak_of.ensures (weak_room_lem _ _ (laid_of _ c.args.l.fits) (omega (arith, c.requires.l_in_bounds, c.clear_list.auto.w, c.clear_list-2.auto.w)))

pub shape_of-w : goal.shape_of-w
shape_of-w c = c.clear_list-3.auto.w ∙ c.clear_list-2.auto.w ∙ c.clear_list.auto.w

pub returns : goal.returns
unfolding clear_lists
returns c = rw (← (rw c.gray_of.ensures at c.clear_list.ensures), ← (rw c.grayagain_of.ensures at c.clear_list-2.ensures)) ((rw c.weak_of.ensures at c.clear_list-3.ensures))
