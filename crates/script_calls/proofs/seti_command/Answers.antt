-- `script_calls::seti_command` meets its contract: by cases of what is given. Assumes nothing.
use Rattle.script_calls.specs.Commands.{seti_command}
use Rattle.script_calls.proofs.seti_command.Goals as goal

pub returns-in-Some : goal.returns-in-Some
unfolding seti_command
returns-in-Some c = rw (← c.object_of-o.ensures, ← c.table_of.ensures, c.in-Some.is) c.set_item.ensures

pub returns-in-None : goal.returns-in-None
unfolding seti_command
returns-in-None c = rw (← c.object_of-o.ensures, ← c.table_of.ensures, c.in-None.is)
