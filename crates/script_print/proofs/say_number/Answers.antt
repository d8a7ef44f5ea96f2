-- `script_print::say_number` meets its contract: its callees' texts, one after another. Assumes nothing.
use mathlib.Core.Path.{◌∙◌}
use Rattle.script_print.proofs.say_number.Goals as goal

pub returns : goal.returns
returns c = c.say.ensures ∙ rw c.spell-i.ensures.0
