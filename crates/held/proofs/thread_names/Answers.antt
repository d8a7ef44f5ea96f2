-- `held::thread_names` meets its contract: the callees' equations joined. Assumes nothing.
use mathlib.Core.Path.{◌∙◌, sym}
use Rattle.held.specs.Held.{thread_names}
use Rattle.held.proofs.thread_names.Goals as goal

pub returns-then-not-fields_name : goal.returns-then-not-fields_name
unfolding thread_names
returns-then-not-fields_name c = rw (sym c.fields_name.ensures ∙ c.if-not-fields_name.true)

pub returns-then-not-are_sound : goal.returns-then-not-are_sound
unfolding thread_names
returns-then-not-are_sound c = rw (sym c.fields_name.ensures ∙ c.if-not-fields_name.false, ← c.thread_size.ensures.0, sym c.are_sound.ensures ∙ c.if-not-are_sound.true)

pub returns : goal.returns
unfolding thread_names
returns c = rw (sym c.fields_name.ensures ∙ c.if-not-fields_name.false, ← c.thread_size.ensures.0, sym c.are_sound.ensures ∙ c.if-not-are_sound.false) c.lists_name.ensures
