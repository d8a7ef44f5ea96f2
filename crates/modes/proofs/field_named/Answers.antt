-- `modes::field_named` meets its contract: the callees' equations joined. Assumes nothing.
use Rattle.laid.specs.Laid.{tables_room, table_words, laid_of}
use Rattle.modes.specs.Modes.{field_named}
use Rattle.modes.proofs.field_named.Goals as goal

pub name_of-requires : goal.name_of-requires
name_of-requires c = rw c.tables_of-tables.ensures (tables_room _ _ (laid_of _ c.args.l.fits) c.requires.l_in_bounds)

pub body_of-requires : goal.body_of-requires
body_of-requires c = record { room = rw c.tables_of-tables.ensures (tables_room _ _ (laid_of _ c.args.l.fits) c.requires.l_in_bounds); i_lt_slots = rw c.tables_of-tables.ensures (rw c.in-Some.is at (rw c.tables_of-tables.ensures at c.name_of.ensures).1) }

pub look_up-requires : goal.look_up-requires
look_up-requires c = rw (table_words _ (laid_of _ c.args.l.fits)) at (rw c.tables_of-tables.ensures at c.body_of.ensures).1

pub returns-in-Some : goal.returns-in-Some
unfolding field_named
returns-in-Some c = rw (← (rw c.tables_of-tables.ensures at c.name_of.ensures).0, c.in-Some.is, ← (rw c.tables_of-tables.ensures at c.body_of.ensures).0) c.look_up.ensures

pub returns-in-None : goal.returns-in-None
unfolding field_named
returns-in-None c = rw (← (rw c.tables_of-tables.ensures at c.name_of.ensures).0, c.in-None.is)
