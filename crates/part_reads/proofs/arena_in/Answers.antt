-- `part_reads::arena_in` meets its contract: the callees' equations joined. Assumes nothing.
use Rattle.part_reads.proofs.arena_in.Goals as goal

pub returns-in-Head : goal.returns-in-Head
returns-in-Head c = rw (c.in-Head.is, c.head_of.ensures)

pub returns-in-Fresh : goal.returns-in-Fresh
returns-in-Fresh c = rw (c.in-Fresh.is, c.used_of.ensures.0)

pub returns-in-Count : goal.returns-in-Count
returns-in-Count c = rw (c.in-Count.is, c.count_of.ensures)

pub returns-in-Generation : goal.returns-in-Generation
returns-in-Generation c = rw c.in-Generation.is (rw c.wide.ensures.0 at c.slot_in.ensures)

pub returns-in-Colour : goal.returns-in-Colour
returns-in-Colour c = rw c.in-Colour.is (rw c.wide-in-Colour.ensures.0 at c.slot_in-in-Colour.ensures)

pub returns-in-Link : goal.returns-in-Link
returns-in-Link c = rw c.in-Link.is (rw c.wide-in-Link.ensures.0 at c.slot_in-in-Link.ensures)
