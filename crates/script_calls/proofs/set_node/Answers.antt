-- `script_calls::set_node` meets its contract: by cases of what is given. Assumes nothing.
use Rattle.script_calls.specs.Commands.{set_node}
use Rattle.script_calls.specs.Laws.{serves}
use Rattle.script_calls.proofs.set_node.Goals as goal

pub returns-in_default : goal.returns-in_default
unfolding set_node
returns-in_default c = rw (← c.object_of.ensures, c.in_default.is)

pub returns-in_default-object_of : goal.returns-in_default-object_of
unfolding set_node
returns-in_default-object_of c = rw (← c.object_of.ensures, c.in-Some.is, ← c.object_of-2.ensures, c.in_default-object_of.is)

pub returns : goal.returns
unfolding set_node
returns c = rw (← c.object_of.ensures, c.in-Some.is, ← c.object_of-2.ensures, c.in-Some-object_of.is) (serves _ _ _ _ _ _ c.table_set_node-a.ensures c.of_served.ensures)
