-- `table_walk::traverse_table` meets its contract: each way by its test. Assumes nothing.
use mathlib.Core.Path.{refl, sym, ◌∙◌}
use native.Mathlib.Omega.{arith}
use Rattle.base.specs.Ways.{eq_yes, eq_no}
use Rattle.laid.specs.Laid.{tables_room, table_words, laid_of}
use Rattle.mark.specs.Shades.{named_in}
use Rattle.table_walk.specs.Tables.{traverse_table}
use Rattle.table_walk.proofs.traverse_table.Goals as goal

pub shade-requires : goal.shade-requires
shade-requires c = rw c.tables_of-tables.ensures (tables_room _ _ (laid_of _ c.args.l.fits) c.requires.l_in_bounds)

pub returns-then-shade-eq0 : goal.returns-then-shade-eq0
unfolding traverse_table
returns-then-shade-eq0 c = (eq_yes _ _ _ _ _ (sym ((rw c.tables_of-tables.ensures at c.shade.ensures)) ∙ c.if-shade-eq0.true) refl, omega arith)

pub body_of-requires : goal.body_of-requires
body_of-requires c = record { room = rw c.tables_of-tables.ensures (tables_room _ _ (laid_of _ c.args.l.fits) c.requires.l_in_bounds); i_lt_slots = rw c.tables_of-tables.ensures (rw c.wide.ensures.0 (named_in _ _ _ _ ((rw c.tables_of-tables.ensures at c.shade.ensures)) c.if-shade-eq0.false)) }

pub table_cost-c-requires : goal.table_cost-c-requires
table_cost-c-requires c = rw (table_words _ (laid_of _ c.args.l.fits)) at (rw c.tables_of-tables.ensures at c.body_of.ensures).1

pub traverse_table_at-requires : goal.traverse_table_at-requires
traverse_table_at-requires c = record { l_in_bounds = c.requires.l_in_bounds; l_in_bounds_2 = c.requires.l_in_bounds_2; r_bound = named_in _ _ _ _ ((rw c.tables_of-tables.ensures at c.shade.ensures)) c.if-shade-eq0.false }

pub returns : goal.returns
unfolding traverse_table
returns c = (eq_no _ _ _ _ _ (λ e. c.if-shade-eq0.false ((rw c.tables_of-tables.ensures at c.shade.ensures) ∙ e)) (rw (← (rw c.wide.ensures.0 at (rw c.tables_of-tables.ensures at c.body_of.ensures).0), ← c.table_cost-c.ensures.0, ← c.traverse_table_at.ensures)), c.table_cost-c.ensures.1)
