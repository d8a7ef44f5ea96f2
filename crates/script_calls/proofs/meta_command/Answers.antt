-- `script_calls::meta_command` meets its contract: by cases of what is given. Assumes nothing.
use Rattle.script_calls.specs.Commands.{meta_command}
use Rattle.script_calls.proofs.meta_command.Goals as goal

pub returns-in_default : goal.returns-in_default
unfolding meta_command
returns-in_default c = rw (← c.object_of.ensures, c.in_default.is)

pub returns-in-Some-meta_of : goal.returns-in-Some-meta_of
unfolding meta_command
returns-in-Some-meta_of c = rw (← c.object_of.ensures, c.in-Some.is, ← c.object_of-o.ensures, ← c.meta_of.ensures, c.in-Some-meta_of.is) c.set_meta.ensures

pub returns-in-None : goal.returns-in-None
unfolding meta_command
returns-in-None c = rw (← c.object_of.ensures, c.in-Some.is, ← c.object_of-o.ensures, ← c.meta_of.ensures, c.in-None.is)
