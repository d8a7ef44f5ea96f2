-- `given::is_named` meets its contract: the handle names a slot or none. Assumes nothing.
use Rattle.given.specs.Given.{is_named}
use Rattle.given.proofs.is_named.Goals as goal

pub returns-in-Some : goal.returns-in-Some
unfolding is_named
returns-in-Some c = rw (← c.name_of.ensures.0, c.in-Some.is)

pub returns-in-None : goal.returns-in-None
unfolding is_named
returns-in-None c = rw (← c.name_of.ensures.0, c.in-None.is)
