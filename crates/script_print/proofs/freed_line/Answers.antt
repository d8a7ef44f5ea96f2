-- `script_print::freed_line` meets its contract: its callees' texts, one after another. Assumes nothing.
use Rattle.script_bytes.specs.Laws.{said_append}
use Rattle.script_print.specs.Texts.{freed_line}
use Rattle.script_print.proofs.freed_line.Goals as goal

pub returns : goal.returns
unfolding freed_line
returns c = rw (said_append, ← c.say-one.ensures, said_append, ← c.say_three-two.ensures, said_append, ← c.say_three-three.ensures) c.say.ensures
