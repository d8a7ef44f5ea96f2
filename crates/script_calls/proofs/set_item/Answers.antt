-- `script_calls::set_item` meets its contract: by cases of what is given. Assumes nothing.
use Rattle.script_calls.specs.Commands.{set_item}
use Rattle.script_calls.specs.Laws.{serves}
use Rattle.script_calls.proofs.set_item.Goals as goal

pub returns-in-Some : goal.returns-in-Some
unfolding set_item
returns-in-Some c = rw (← c.object_of.ensures, c.in-Some.is) (serves _ _ _ _ _ _ c.table_set-a.ensures c.of_served.ensures)

pub returns-in-None : goal.returns-in-None
unfolding set_item
returns-in-None c = rw (← c.object_of.ensures, c.in-None.is)
