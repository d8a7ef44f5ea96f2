-- `clearing::keep_table` meets its contract: each way by its test. Assumes nothing.
use mathlib.Core.Path.{refl, sym, ◌∙◌}
use native.Mathlib.Omega.{arith}
use Rattle.base.specs.Ways.{eq_yes, eq_no}
use Rattle.laid.specs.Laid.{tables_room, table_words, laid_of}
use Rattle.mark.specs.Shades.{named_in}
use Rattle.clearing.specs.Strings.{keep_table}
use Rattle.clearing.proofs.keep_table.Goals as goal

pub shade-requires : goal.shade-requires
shade-requires c = rw c.tables_of-tables.ensures (tables_room _ _ (laid_of _ c.args.l.fits) c.requires.l_in_bounds)

pub shape_of-w-then-shade-eq0 : goal.shape_of-w-then-shade-eq0
shape_of-w-then-shade-eq0 c = refl

pub returns-then-shade-eq0 : goal.returns-then-shade-eq0
unfolding keep_table
returns-then-shade-eq0 c = eq_yes _ _ _ _ _ (sym ((rw c.tables_of-tables.ensures at c.shade.ensures)) ∙ c.if-shade-eq0.true) refl

pub body_of-p-requires : goal.body_of-p-requires
body_of-p-requires c = record { room = rw c.tables_of-tables.ensures (tables_room _ _ (laid_of _ c.args.l.fits) c.requires.l_in_bounds); i_lt_slots = rw c.tables_of-tables.ensures (omega (arith, c.wide.ensures.0, named_in _ _ _ _ ((rw c.tables_of-tables.ensures at c.shade.ensures)) c.if-shade-eq0.false)) }

pub array_size-n-requires : goal.array_size-n-requires
array_size-n-requires c = rw (table_words _ (laid_of _ c.args.l.fits)) at (rw c.tables_of-tables.ensures at c.body_of-p.ensures).1

pub node_count-k-requires : goal.node_count-k-requires
node_count-k-requires c = rw (table_words _ (laid_of _ c.args.l.fits)) at (rw c.tables_of-tables.ensures at c.body_of-p.ensures).1

pub overflow_add-p : goal.overflow_add-p
overflow_add-p c = omega arith

pub keep_strings-requires : goal.keep_strings-requires
keep_strings-requires c = record { l_in_bounds = omega (arith, c.requires.l_in_bounds); n_in_bounds = omega (arith, table_words _ (laid_of _ c.args.l.fits), (rw c.tables_of-tables.ensures at c.body_of-p.ensures).1, c.array_size-n.ensures.1) }

pub overflow_add-p-2 : goal.overflow_add-p-2
overflow_add-p-2 c = omega arith

pub overflow_mul-n : goal.overflow_mul-n
overflow_mul-n c = omega (arith, c.array_size-n.ensures.1)

pub overflow_add-p-3 : goal.overflow_add-p-3
overflow_add-p-3 c = omega (arith, c.array_size-n.ensures.1)

pub keep_nodes-requires : goal.keep_nodes-requires
keep_nodes-requires c = record { l_in_bounds = omega (arith, c.requires.l_in_bounds, c.keep_strings.auto.w); n_in_bounds = omega (arith, table_words _ (laid_of _ c.args.l.fits), (rw c.tables_of-tables.ensures at c.body_of-p.ensures).1, c.array_size-n.ensures.1, c.node_count-k.ensures.1, c.keep_strings.auto.w) }

pub shape_of-w : goal.shape_of-w
shape_of-w c = c.keep_nodes.auto.w ∙ c.keep_strings.auto.w

pub returns : goal.returns
unfolding keep_table
returns c = eq_no _ _ _ _ _ (λ e. c.if-shade-eq0.false ((rw c.tables_of-tables.ensures at c.shade.ensures) ∙ e)) (rw (← c.wide.ensures.0, ← (rw c.tables_of-tables.ensures at c.body_of-p.ensures).0, ← c.array_size-n.ensures.0, ← c.node_count-k.ensures.0, ← c.keep_strings.ensures) c.keep_nodes.ensures)
