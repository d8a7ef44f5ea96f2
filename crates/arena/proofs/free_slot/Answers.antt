-- `arena::free_slot` meets its contract: the callees' equations joined. Assumes nothing.
use Rattle.arena.specs.Slots.{emptied, chained, free_slot}
use Rattle.arena.proofs.free_slot.Goals as goal

pub returns : goal.returns
unfolding free_slot emptied chained
returns c = rw (← c.clear_body.ensures, ← c.clear_text.ensures, ← c.age_slot.ensures, ← c.push_slot.ensures)
