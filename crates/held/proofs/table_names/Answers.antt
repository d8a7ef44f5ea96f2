-- `held::table_names` meets its contract: the callees' equations joined. Assumes nothing.
use mathlib.Core.Path.{◌∙◌, sym}
use Rattle.held.specs.Held.{table_names}
use Rattle.held.proofs.table_names.Goals as goal

pub returns-then-not-is_table_or : goal.returns-then-not-is_table_or
unfolding table_names
returns-then-not-is_table_or c = rw (← c.table_meta.ensures, sym c.is_table_or.ensures ∙ c.if-not-is_table_or.true)

pub returns-then-not-are_sound : goal.returns-then-not-are_sound
unfolding table_names
returns-then-not-are_sound c = rw (← c.table_meta.ensures, sym c.is_table_or.ensures ∙ c.if-not-is_table_or.false, ← c.array_size.ensures.0, sym c.are_sound.ensures ∙ c.if-not-are_sound.true)

pub returns : goal.returns
unfolding table_names
returns c = rw (← c.table_meta.ensures, sym c.is_table_or.ensures ∙ c.if-not-is_table_or.false, ← c.array_size.ensures.0, sym c.are_sound.ensures ∙ c.if-not-are_sound.false) c.nodes_name.ensures
