-- `held::node_names` meets its contract: the callees' equations joined. Assumes nothing.
use mathlib.Core.Path.{◌∙◌, sym}
use Rattle.held.specs.Held.{node_names}
use Rattle.held.proofs.node_names.Goals as goal

pub returns-then-not-is_sound : goal.returns-then-not-is_sound
unfolding node_names
returns-then-not-is_sound c = rw (← c.node_key-key.ensures, sym c.is_sound.ensures ∙ c.if-not-is_sound.true)

pub returns : goal.returns
unfolding node_names
returns c = rw (← c.node_key-key.ensures, sym c.is_sound.ensures ∙ c.if-not-is_sound.false, ← c.node_value-value.ensures) c.is_sound-2.ensures
