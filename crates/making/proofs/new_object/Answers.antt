-- `making::new_object` meets its contract: each way by its test. Assumes nothing.
use native.Mathlib.Omega.{arith}
use borrow.Author.Rules.{rules}
use Rattle.making.specs.Making.{new_object}
use Rattle.making.proofs.new_object.Goals as goal

pub returns-then-would_pass : goal.returns-then-would_pass
unfolding new_object
returns-then-would_pass c = (rw (← (rw c.counters_of.ensures at c.would_pass.ensures), c.if-would_pass.true), tt)

pub overflow_cast-result : goal.overflow_cast-result
overflow_cast-result c = omega (arith, rw c.in-Ok.is at c.take_slot.ensures.1, c.requires.room.slots)

pub begin-requires : goal.begin-requires
begin-requires c = record { room = search rules; in_bounds = (search rules, rw c.in-Ok.is at c.take_slot.ensures.1, search rules) }

pub returns-in-Ok : goal.returns-in-Ok
unfolding new_object
returns-in-Ok c = (rw (← (rw c.counters_of.ensures at c.would_pass.ensures), c.if-would_pass.false, ← c.get-white.ensures, ← c.take_slot.ensures.0, c.in-Ok.is, ← c.begin.ensures.0, ← c.begin.ensures.1), (rw c.in-Ok.is at c.take_slot.ensures.1, omega (arith, c.begin.ensures.2)))

pub returns-in-Err-NoneFree : goal.returns-in-Err-NoneFree
unfolding new_object
returns-in-Err-NoneFree c = (rw (← (rw c.counters_of.ensures at c.would_pass.ensures), c.if-would_pass.false, ← c.get-white.ensures, ← c.take_slot.ensures.0, c.in-Err-NoneFree.is, c.in-Err-NoneFree.field-0-is), tt)

pub returns-in-Err-Broken : goal.returns-in-Err-Broken
unfolding new_object
returns-in-Err-Broken c = (rw (← (rw c.counters_of.ensures at c.would_pass.ensures), c.if-would_pass.false, ← c.get-white.ensures, ← c.take_slot.ensures.0, c.in-Err-Broken.is, c.in-Err-Broken.field-0-is, ← c.put.ensures), tt)
