-- `table_calls::table_set_in` meets its contract: the callees' equations joined. Assumes nothing.
use Rattle.entered.specs.Entered.{none_refused}
use Rattle.laid.specs.Laid.{table_words, tables_room, laid_of}
use Rattle.table_calls.specs.TableCalls.{table_set_in}
use Rattle.table_calls.proofs.table_set_in.Goals as goal

pub name_of-requires : goal.name_of-requires
name_of-requires c = rw c.tables_of-tables.ensures (tables_room _ _ (laid_of _ c.args.l.fits) c.requires.l_in_bounds)

pub body_of-p-requires : goal.body_of-p-requires
body_of-p-requires c = record { room = rw c.tables_of-tables.ensures (tables_room _ _ (laid_of _ c.args.l.fits) c.requires.l_in_bounds); i_lt_slots = rw c.tables_of-tables.ensures (rw (rw c.in_ok-n.was at c.ok_or.ensures.ok_part) at (rw c.tables_of-tables.ensures at c.name_of.ensures).1) }

pub store_at-requires : goal.store_at-requires
store_at-requires c = record { l_in_bounds = c.requires.l_in_bounds; p_in_bounds = rw (table_words _ (laid_of _ c.args.l.fits)) at (rw c.tables_of-tables.ensures at c.body_of-p.ensures).1 }

pub returns : goal.returns
unfolding table_set_in
returns c = rw (← (rw c.tables_of-tables.ensures at c.name_of.ensures).0, rw c.in_ok-n.was at c.ok_or.ensures.ok_part, ← (rw c.tables_of-tables.ensures at c.body_of-p.ensures).0) (rw c.wide.ensures.0 at c.store_at.ensures)

pub returns-in_err-n : goal.returns-in_err-n
unfolding table_set_in
returns-in_err-n c = let (a, b) = none_refused _ _ c.ok_or.ensures.value c.in_err-n.was c.from_residual.ensures.1 in rw (← (rw c.tables_of-tables.ensures at c.name_of.ensures).0, a, b)
