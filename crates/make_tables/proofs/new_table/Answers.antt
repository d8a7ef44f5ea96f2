-- `make_tables::new_table` meets its contract: the record is written where it was made; a refusal is the answer. Assumes nothing.
use native.Mathlib.Omega.{arith}
use Rattle.std.proofs.lemmas.Result.{err_from_is_err_and}
use Rattle.laid.specs.Laid.{header_room, table_words, tables_room, laid_of}
use Rattle.make_tables.specs.Making.{new_table}
use Rattle.make_tables.proofs.new_table.Goals as goal

pub new_object-requires : goal.new_object-requires
new_object-requires c = record { room = rw c.tables_of.ensures (tables_room _ _ (laid_of _ c.args.l.fits) c.requires.l_in_bounds); in_bounds = rw c.tables_of.ensures ((header_room _ c.args.w.now (laid_of _ c.args.l.fits) c.requires.l_in_bounds, omega (arith, c.table_extent-n.ensures.1, table_words _ (laid_of _ c.args.l.fits)), c.table_extent-n.ensures.1)) }

pub set_table_sizes-requires : goal.set_table_sizes-requires
set_table_sizes-requires c = record { p_in_bounds = omega (arith, (rw c.in_ok-i.was at (rw c.tables_of.ensures at c.new_object.ensures).1).1, table_words _ (laid_of _ c.args.l.fits), c.new_object.auto.w); array_bound = c.requires.array_bound }

pub returns : goal.returns
unfolding new_table
returns c = rw (← c.table_extent-n.ensures.0, ← (rw c.tables_of.ensures at c.new_object.ensures).0, c.in_ok-i.was, ← c.set_table_sizes.ensures)

pub returns-in_err-i : goal.returns-in_err-i
unfolding new_table
returns-in_err-i c = let p = err_from_is_err_and c.from_residual.result c.from_residual.ensures.1 in rw (← c.table_extent-n.ensures.0, ← (rw c.tables_of.ensures at c.new_object.ensures).0, c.in_err-i.was, p.1, p.2)
