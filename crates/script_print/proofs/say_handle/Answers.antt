-- `script_print::say_handle` meets its contract: its callees' texts, one after another. Assumes nothing.
use Rattle.script_bytes.specs.Laws.{said_append}
use Rattle.script_print.specs.Texts.{handle_text}
use Rattle.script_print.proofs.say_handle.Goals as goal

pub returns : goal.returns
unfolding handle_text
returns c = rw (said_append, ← c.say_field-one.ensures, said_append, ← c.say_field-two.ensures) c.say.ensures
