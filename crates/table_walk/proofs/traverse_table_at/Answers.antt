-- `table_walk::traverse_table_at` meets its contract: the callees' equations joined, with a metatable and without. Assumes nothing.
use native.Mathlib.Omega.{arith}
use Rattle.laid.specs.Laid.{table_words, tables_room, laid_of}
use Rattle.modes.specs.Modes.{weak_mode}
use Rattle.mark.specs.Marking.{mark_table_or}
use Rattle.table_walk.specs.Tables.{list_weak, traverse_table_at}
use Rattle.table_walk.proofs.traverse_table_at.Goals as goal

pub body_of-p-requires : goal.body_of-p-requires
body_of-p-requires c = record { room = rw c.tables_of-tables.ensures (tables_room _ _ (laid_of _ c.args.l.fits) c.requires.l_in_bounds); i_lt_slots = rw c.tables_of-tables.ensures (rw c.wide-i.ensures.0 c.requires.r_bound) }

pub table_meta-mt-requires : goal.table_meta-mt-requires
table_meta-mt-requires c = rw (table_words _ (laid_of _ c.args.l.fits)) at (rw c.tables_of-tables.ensures at c.body_of-p.ensures).1

pub set_colour-requires : goal.set_colour-requires
set_colour-requires c = record { room = rw c.tables_of-tables.ensures (tables_room _ _ (laid_of _ c.args.l.fits) c.requires.l_in_bounds); i_lt_slots = rw c.tables_of-tables.ensures (rw c.wide-i.ensures.0 c.requires.r_bound) }

pub mark_table_or-requires : goal.mark_table_or-requires
mark_table_or-requires c = record { l_in_bounds = omega (arith, c.set_colour.auto.w, c.requires.l_in_bounds) }

pub list_weak-requires : goal.list_weak-requires
list_weak-requires c = record { l_in_bounds = omega (arith, c.mark_table_or.auto.w, c.set_colour.auto.w, c.requires.l_in_bounds) }

pub mark_entries-requires : goal.mark_entries-requires
mark_entries-requires c = record { l_in_bounds = omega (arith, c.list_weak.auto.w, c.mark_table_or.auto.w, c.set_colour.auto.w, c.requires.l_in_bounds); p_in_bounds = omega (arith, c.list_weak.auto.w, c.mark_table_or.auto.w, c.set_colour.auto.w, (rw c.tables_of-tables.ensures at c.body_of-p.ensures).1, table_words _ (laid_of _ c.args.l.fits)) }

pub set_colour-requires-in-None : goal.set_colour-requires-in-None
set_colour-requires-in-None c = record { room = rw c.tables_of-tables.ensures (tables_room _ _ (laid_of _ c.args.l.fits) c.requires.l_in_bounds); i_lt_slots = rw c.tables_of-tables.ensures (rw c.wide-i.ensures.0 c.requires.r_bound) }

pub mark_entries-requires-in-None : goal.mark_entries-requires-in-None
mark_entries-requires-in-None c = record { l_in_bounds = omega (arith, c.set_colour-in-None.auto.w, c.requires.l_in_bounds); p_in_bounds = omega (arith, c.set_colour-in-None.auto.w, (rw c.tables_of-tables.ensures at c.body_of-p.ensures).1, table_words _ (laid_of _ c.args.l.fits)) }

pub returns-in-Some : goal.returns-in-Some
unfolding traverse_table_at
returns-in-Some c = rw (← rw c.wide-i.ensures.0 at (rw c.tables_of-tables.ensures at c.body_of-p.ensures).0, ← c.table_meta-mt.ensures, ← c.check_weak_mode-m.ensures, ← rw c.wide-i.ensures.0 at ((rw c.tables_of-tables.ensures at c.set_colour.ensures)), ← c.mark_table_or.ensures, ← c.list_weak.ensures) c.mark_entries.ensures

pub returns-in-None : goal.returns-in-None
unfolding traverse_table_at weak_mode mark_table_or list_weak
returns-in-None c = rw (← rw c.wide-i.ensures.0 at (rw c.tables_of-tables.ensures at c.body_of-p.ensures).0, ← c.table_meta-mt.ensures, c.in-None.is, ← rw c.wide-i.ensures.0 at ((rw c.tables_of-tables.ensures at c.set_colour-in-None.ensures))) c.mark_entries-in-None.ensures
