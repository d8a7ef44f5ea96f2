-- `script_print::refused_line` meets its contract: its callees' texts, one after another. Assumes nothing.
use Rattle.script_bytes.specs.Laws.{said_append}
use Rattle.script_print.specs.Texts.{refused_line}
use Rattle.script_print.proofs.refused_line.Goals as goal

pub returns : goal.returns
unfolding refused_line
returns c = rw (said_append, ← c.say-one.ensures, said_append, ← c.say_field-two.ensures, said_append, ← c.say-three.ensures, said_append, ← c.say_field-four.ensures) c.say.ensures
