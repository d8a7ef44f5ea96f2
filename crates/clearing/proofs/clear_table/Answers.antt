-- `clearing::clear_table` meets its contract: each way by its test. Assumes nothing.
use mathlib.Core.Path.{refl, sym, ◌∙◌}
use native.Mathlib.Omega.{arith}
use Rattle.base.specs.Ways.{eq_yes, eq_no}
use Rattle.laid.specs.Laid.{tables_room, table_words, laid_of}
use Rattle.mark.specs.Shades.{named_in}
use Rattle.clearing.specs.Entries.{clear_table}
use Rattle.clearing.proofs.clear_table.Goals as goal

pub shade-requires : goal.shade-requires
shade-requires c = rw c.tables_of-tables.ensures (tables_room _ _ (laid_of _ c.args.l.fits) c.requires.l_in_bounds)

pub shape_of-w-then-shade-eq0 : goal.shape_of-w-then-shade-eq0
shape_of-w-then-shade-eq0 c = refl

pub returns-then-shade-eq0 : goal.returns-then-shade-eq0
unfolding clear_table
returns-then-shade-eq0 c = eq_yes _ _ _ _ _ (sym ((rw c.tables_of-tables.ensures at c.shade.ensures)) ∙ c.if-shade-eq0.true) refl

pub body_of-p-requires : goal.body_of-p-requires
body_of-p-requires c = record { room = rw c.tables_of-tables.ensures (tables_room _ _ (laid_of _ c.args.l.fits) c.requires.l_in_bounds); i_lt_slots = rw c.tables_of-tables.ensures (omega (arith, c.wide.ensures.0, named_in _ _ _ _ ((rw c.tables_of-tables.ensures at c.shade.ensures)) c.if-shade-eq0.false)) }

pub table_meta-mt-requires : goal.table_meta-mt-requires
table_meta-mt-requires c = rw (table_words _ (laid_of _ c.args.l.fits)) at (rw c.tables_of-tables.ensures at c.body_of-p.ensures).1

pub check_weak_mode-m-requires : goal.check_weak_mode-m-requires
check_weak_mode-m-requires c = c.requires

pub clear_entries-requires : goal.clear_entries-requires
clear_entries-requires c = record { l_in_bounds = c.requires.l_in_bounds; p_in_bounds = rw (table_words _ (laid_of _ c.args.l.fits)) at (rw c.tables_of-tables.ensures at c.body_of-p.ensures).1 }

pub shape_of-w-then-is_weak : goal.shape_of-w-then-is_weak
shape_of-w-then-is_weak c = c.clear_entries.auto.w

pub returns-then-is_weak : goal.returns-then-is_weak
unfolding clear_table
returns-then-is_weak c = eq_no _ _ _ _ _ (λ e. c.if-shade-eq0.false ((rw c.tables_of-tables.ensures at c.shade.ensures) ∙ e)) (rw (← c.wide.ensures.0, ← (rw c.tables_of-tables.ensures at c.body_of-p.ensures).0, ← c.table_meta-mt.ensures, ← c.check_weak_mode-m.ensures, ← c.is_weak.ensures, c.if-is_weak.true) c.clear_entries.ensures)

pub shape_of-w-else-is_weak : goal.shape_of-w-else-is_weak
shape_of-w-else-is_weak c = refl

pub returns-else-is_weak : goal.returns-else-is_weak
unfolding clear_table
returns-else-is_weak c = eq_no _ _ _ _ _ (λ e. c.if-shade-eq0.false ((rw c.tables_of-tables.ensures at c.shade.ensures) ∙ e)) (rw (← c.wide.ensures.0, ← (rw c.tables_of-tables.ensures at c.body_of-p.ensures).0, ← c.table_meta-mt.ensures, ← c.check_weak_mode-m.ensures, ← c.is_weak.ensures, c.if-is_weak.false))
