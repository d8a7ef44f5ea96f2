-- `script_calls::push_command` meets its contract: by cases of what is given. Assumes nothing.
use Rattle.script_calls.specs.Commands.{push_command}
use Rattle.script_calls.specs.Laws.{serves}
use Rattle.script_calls.proofs.push_command.Goals as goal

pub returns-in-Some : goal.returns-in-Some
unfolding push_command
returns-in-Some c = rw (← c.object_of.ensures, c.in-Some.is) (serves _ _ _ _ _ _ c.push-a.ensures c.of_served.ensures)

pub returns-in-None : goal.returns-in-None
unfolding push_command
returns-in-None c = rw (← c.object_of.ensures, c.in-None.is)
