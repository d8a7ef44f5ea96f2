-- `script_print::final_line` meets its contract: its callees' texts, one after another. Assumes nothing.
use Rattle.script_bytes.specs.Laws.{said_append}
use Rattle.script_print.specs.Texts.{final_line}
use Rattle.script_print.proofs.final_line.Goals as goal

pub returns : goal.returns
unfolding final_line
returns c = rw (said_append, ← c.say-next.ensures) c.say_handle.ensures
