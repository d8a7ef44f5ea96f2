-- `script_calls::pop_command` meets its contract: its callees' equations joined. Assumes nothing.
use Rattle.script_calls.specs.Commands.{pop_command}
use Rattle.script_calls.proofs.pop_command.Goals as goal

pub returns : goal.returns
unfolding pop_command
returns c = rw (← c.pop-a.ensures, c.of_got.ensures)
