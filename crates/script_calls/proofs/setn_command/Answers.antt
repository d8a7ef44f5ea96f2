-- `script_calls::setn_command` meets its contract: by cases of what is given. Assumes nothing.
use Rattle.script_calls.specs.Commands.{setn_command}
use Rattle.script_calls.proofs.setn_command.Goals as goal

pub returns-in-Some : goal.returns-in-Some
unfolding setn_command
returns-in-Some c = rw (← c.object_of-o.ensures, ← c.table_of.ensures, c.in-Some.is) c.set_node.ensures

pub returns-in-None : goal.returns-in-None
unfolding setn_command
returns-in-None c = rw (← c.object_of-o.ensures, ← c.table_of.ensures, c.in-None.is)
