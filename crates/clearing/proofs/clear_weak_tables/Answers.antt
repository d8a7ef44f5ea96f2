-- `clearing::clear_weak_tables` meets its contract: from what its callees promise. Assumes nothing.
use mathlib.Core.Path.{ap, ◌∙◌}
use native.Mathlib.Omega.{arith}
use Rattle.lists.specs.Lists.{cleared}
use Rattle.laid.specs.Laid.{weak_room_lem, laid_of}
use Rattle.clearing.specs.Entries.{clear_all, clear_weak_tables}
use Rattle.clearing.proofs.clear_weak_tables.Goals as goal

pub keep_all-requires : goal.keep_all-requires
keep_all-requires c = record { l_in_bounds = c.requires.l_in_bounds }

pub clear_all-requires : goal.clear_all-requires
clear_all-requires c = record { l_in_bounds = omega (arith, c.requires.l_in_bounds, c.keep_all.auto.w); l_in_bounds_2 = c.requires.l_in_bounds_2 }

pub clear_list-requires : goal.clear_list-requires
clear_list-requires c = rw c.weak_of.ensures (weak_room_lem _ _ (laid_of _ c.args.l.fits) (omega (arith, c.requires.l_in_bounds, c.keep_all.auto.w, c.clear_all.auto.w)))

pub shape_of-w : goal.shape_of-w
shape_of-w c = c.clear_list.auto.w ∙ c.clear_all.auto.w ∙ c.keep_all.auto.w

pub returns : goal.returns
unfolding clear_weak_tables
returns c = (rw c.weak_of.ensures at c.clear_list.ensures) ∙ ap (cleared _) (c.clear_all.ensures ∙ ap (clear_all _ _ _) c.keep_all.ensures)
