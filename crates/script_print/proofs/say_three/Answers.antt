-- `script_print::say_three` meets its contract: its callees' texts, one after another. Assumes nothing.
use Rattle.script_bytes.specs.Laws.{said_append}
use Rattle.script_print.specs.Texts.{three_fields}
use Rattle.script_print.proofs.say_three.Goals as goal

pub returns : goal.returns
unfolding three_fields
returns c = rw (said_append, ← c.say_field-one.ensures, said_append, ← c.say_field-two.ensures) c.say_field.ensures
