-- `part_reads::slot_in` meets its contract: each way by its test. Assumes nothing.
use mathlib.Core.Path.{refl}
use native.Mathlib.Omega.{arith}
use Rattle.base.specs.Ways.{le_yes, le_no}
use Rattle.part_reads.specs.PartReads.{slot_in}
use Rattle.part_reads.proofs.slot_in.Goals as goal

pub returns-then-used_of-i : goal.returns-then-used_of-i
unfolding slot_in
returns-then-used_of-i c = le_yes _ _ _ _ _ (omega arith) refl

pub generation_of-requires : goal.generation_of-requires
generation_of-requires c = record { room = c.requires; i_lt_slots = omega arith }

pub colour_of-requires : goal.colour_of-requires
colour_of-requires c = record { room = c.requires; i_lt_slots = omega arith }

pub link_of-requires : goal.link_of-requires
link_of-requires c = record { room = c.requires; i_lt_slots = omega arith }

pub returns-in-Generation : goal.returns-in-Generation
unfolding slot_in
returns-in-Generation c = le_no _ _ _ _ _ (omega arith) (rw (c.in-Generation.is, c.generation_of.ensures))

pub returns-in-Colour : goal.returns-in-Colour
unfolding slot_in
returns-in-Colour c = le_no _ _ _ _ _ (omega arith) (rw (c.in-Colour.is, c.colour_of.ensures))

pub returns-in-Link : goal.returns-in-Link
unfolding slot_in
returns-in-Link c = le_no _ _ _ _ _ (omega arith) (rw (c.in-Link.is, c.link_of.ensures))

pub returns-in-Head : goal.returns-in-Head
unfolding slot_in
returns-in-Head c = le_no _ _ _ _ _ (omega arith) (rw c.in-Head.is)

pub returns-in-Fresh : goal.returns-in-Fresh
unfolding slot_in
returns-in-Fresh c = le_no _ _ _ _ _ (omega arith) (rw c.in-Fresh.is)

pub returns-in-Count : goal.returns-in-Count
unfolding slot_in
returns-in-Count c = le_no _ _ _ _ _ (omega arith) (rw c.in-Count.is)
