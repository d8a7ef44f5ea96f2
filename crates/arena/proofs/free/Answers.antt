-- `arena::free` meets its contract: the callees' equations joined. Assumes nothing.
use Rattle.arena.specs.Slots.{freed}
use Rattle.arena.proofs.free.Goals as goal

pub free_slot-requires : goal.free_slot-requires
free_slot-requires c = record { room = c.requires.room; wide = c.requires.wide; i_lt_slots = rw c.in-Some.is at c.name_of.ensures.1 }

pub returns-in-Some : goal.returns-in-Some
unfolding freed
returns-in-Some c = rw (← c.name_of.ensures.0, c.in-Some.is, ← c.free_slot.ensures)

pub returns-in-None : goal.returns-in-None
unfolding freed
returns-in-None c = rw (← c.name_of.ensures.0, c.in-None.is)
