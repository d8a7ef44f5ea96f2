-- `clearing::keep_listed` meets its contract: the callees' equations joined. Assumes nothing.
use mathlib.Core.Path.{refl}
use Rattle.laid.specs.Laid.{weak_room_lem, laid_of}
use Rattle.clearing.specs.Strings.{on_table, keep_listed}
use Rattle.clearing.proofs.Laws.{passed}
use Rattle.clearing.proofs.keep_listed.Goals as goal

pub item_at-requires : goal.item_at-requires
item_at-requires c = rw c.weak_of.ensures (weak_room_lem _ _ (laid_of _ c.args.l.fits) c.requires.l_in_bounds)

pub keep_table-requires : goal.keep_table-requires
keep_table-requires c = c.requires

pub shape_of-w-in-Table : goal.shape_of-w-in-Table
shape_of-w-in-Table c = c.keep_table.auto.w

pub returns-in-Table : goal.returns-in-Table
unfolding on_table keep_listed
returns-in-Table c = rw (← (rw c.weak_of.ensures at c.item_at.ensures), c.in-Table.is) c.keep_table.ensures

pub shape_of-w-in_default : goal.shape_of-w-in_default
shape_of-w-in_default c = refl

pub returns-in_default : goal.returns-in_default
unfolding keep_listed
returns-in_default c = rw (← (rw c.weak_of.ensures at c.item_at.ensures)) (passed _ _ _ c.in_default.not-Table)
