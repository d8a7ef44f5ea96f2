-- `arena_codes::paint_in` meets its contract: the callees' equations joined. Assumes nothing.
use Rattle.arena_codes.specs.Codes.{paint_in}
use Rattle.arena_codes.proofs.paint_in.Goals as goal

pub set_colour-requires : goal.set_colour-requires
set_colour-requires c = record { room = c.requires; i_lt_slots = rw c.in-Some.is at c.name_of.ensures.1 }

pub returns-in-Some : goal.returns-in-Some
unfolding paint_in
returns-in-Some c = rw (← c.name_of.ensures.0, c.in-Some.is, c.set_colour.ensures)

pub returns-in-None : goal.returns-in-None
unfolding paint_in
returns-in-None c = rw (← c.name_of.ensures.0, c.in-None.is, c.number.ensures)
