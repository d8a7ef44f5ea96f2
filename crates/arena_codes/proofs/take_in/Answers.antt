-- `arena_codes::take_in` meets its contract: the callees' equations joined. Assumes nothing.
use native.Mathlib.Omega.{arith}
use Rattle.arena_codes.specs.Codes.{take_in}
use Rattle.arena_codes.proofs.take_in.Goals as goal

pub overflow_cast-i : goal.overflow_cast-i
overflow_cast-i c = omega (arith, rw c.in-Ok.is at c.take_slot.ensures.1)

pub returns-in-Ok : goal.returns-in-Ok
unfolding take_in
returns-in-Ok c = rw (← c.take_slot.ensures.0, c.in-Ok.is, c.tell.ensures)

pub returns-in-Err-NoneFree : goal.returns-in-Err-NoneFree
unfolding take_in
returns-in-Err-NoneFree c = rw (← c.take_slot.ensures.0, c.in-Err-NoneFree.is, c.in-Err-NoneFree.field-0-is, c.number.ensures)

pub returns-in-Err-Broken : goal.returns-in-Err-Broken
unfolding take_in
returns-in-Err-Broken c = rw (← c.take_slot.ensures.0, c.in-Err-Broken.is, c.in-Err-Broken.field-0-is, c.number-in-Err-Broken.ensures)
