-- `script_print::say_field` meets its contract: its callees' texts, one after another. Assumes nothing.
use Rattle.script_bytes.specs.Laws.{said_append}
use Rattle.script_print.specs.Texts.{field}
use Rattle.script_print.proofs.say_field.Goals as goal

pub returns : goal.returns
unfolding field
returns c = rw (said_append, ← c.say-next.ensures) c.say_number.ensures
