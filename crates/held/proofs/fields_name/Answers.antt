-- `held::fields_name` meets its contract: the callees' equations joined. Assumes nothing.
use mathlib.Core.Path.{◌∙◌, sym}
use Rattle.held.specs.Held.{fields_name}
use Rattle.held.proofs.fields_name.Goals as goal

pub returns-then-not-is_table_or : goal.returns-then-not-is_table_or
unfolding fields_name
returns-then-not-is_table_or c = rw (← c.thread_global.ensures, sym c.is_table_or.ensures ∙ c.if-not-is_table_or.true)

pub returns-then-not-is_sound : goal.returns-then-not-is_sound
unfolding fields_name
returns-then-not-is_sound c = rw (← c.thread_global.ensures, sym c.is_table_or.ensures ∙ c.if-not-is_table_or.false, ← c.thread_hook.ensures, sym c.is_sound.ensures ∙ c.if-not-is_sound.true)

pub returns : goal.returns
unfolding fields_name
returns c = rw (← c.thread_global.ensures, sym c.is_table_or.ensures ∙ c.if-not-is_table_or.false, ← c.thread_hook.ensures, sym c.is_sound.ensures ∙ c.if-not-is_sound.false, ← c.thread_error.ensures) c.is_sound-2.ensures
