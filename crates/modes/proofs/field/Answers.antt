-- `modes::field` meets its contract: the callees' equations joined. Assumes nothing.
use Rattle.modes.specs.Modes.{field}
use Rattle.modes.proofs.field.Goals as goal

pub returns-in-Some : goal.returns-in-Some
unfolding field
returns-in-Some c = rw c.in-Some.is c.field_named.ensures

pub returns-in-None : goal.returns-in-None
unfolding field
returns-in-None c = rw c.in-None.is
