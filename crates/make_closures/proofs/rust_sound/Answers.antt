-- `make_closures::rust_sound` meets its contract: the callees' equations joined. Assumes nothing.
use Rattle.make_closures.specs.Making.{rust_sound}
use Rattle.make_closures.proofs.rust_sound.Goals as goal

pub returns-then-is_table_or : goal.returns-then-is_table_or
unfolding rust_sound
returns-then-is_table_or c = rw (← c.is_table_or.ensures, c.if-is_table_or.true) c.are_sound.ensures

pub returns-else-is_table_or : goal.returns-else-is_table_or
unfolding rust_sound
returns-else-is_table_or c = rw (← c.is_table_or.ensures, c.if-is_table_or.false)
