-- `reads::find_in` meets its contract: from what its callees promise. Assumes nothing.
use Rattle.reads.specs.Objects.{found_in}
use Rattle.reads.proofs.find_in.Goals as goal

pub body_of-requires : goal.body_of-requires
body_of-requires c = record { room = c.requires; i_lt_slots = rw c.in-Some.is at c.name_of.ensures.1 }

pub returns-in-Some : goal.returns-in-Some
unfolding found_in
returns-in-Some c = (rw (← c.name_of.ensures.0, c.in-Some.is, c.body_of.ensures.0), (rw c.in-Some.is at c.name_of.ensures.1, c.body_of.ensures.1))

pub returns-in-None : goal.returns-in-None
unfolding found_in
returns-in-None c = (rw (← c.name_of.ensures.0, c.in-None.is), tt)
