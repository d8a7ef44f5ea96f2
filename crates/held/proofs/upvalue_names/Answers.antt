-- `held::upvalue_names` meets its contract: the callees' equations joined. Assumes nothing.
use mathlib.Core.Path.{◌∙◌, sym}
use Rattle.held.specs.Held.{upvalue_names}
use Rattle.held.proofs.upvalue_names.Goals as goal

pub returns-then-is_closed : goal.returns-then-is_closed
unfolding upvalue_names
returns-then-is_closed c = rw (sym c.is_closed.ensures ∙ c.if-is_closed.true, ← c.upvalue_value.ensures) c.is_sound.ensures

pub returns : goal.returns
unfolding upvalue_names
returns c = rw (sym c.is_closed.ensures ∙ c.if-is_closed.false)
