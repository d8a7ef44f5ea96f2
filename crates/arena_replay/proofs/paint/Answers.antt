-- `arena_replay::paint` meets its contract: from what its callees promise. Assumes nothing.
use borrow.Author.Rules.{rules}
use Rattle.arena_replay.proofs.paint.Goals as goal

pub set_colour-requires : goal.set_colour-requires
set_colour-requires g c = record { room = search rules; i_lt_slots = rw c.in-Some.is at c.name_of.ensures.1 }
