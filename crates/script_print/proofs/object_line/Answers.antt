-- `script_print::object_line` meets its contract: its callees' texts, one after another. Assumes nothing.
use Rattle.script_bytes.specs.Laws.{said_append}
use Rattle.script_print.specs.Texts.{object_line}
use Rattle.script_print.proofs.object_line.Goals as goal

pub returns : goal.returns
unfolding object_line
returns c = rw (said_append, ← c.say_number-one.ensures, said_append, ← c.say-two.ensures) c.say_handle.ensures
