-- `reads::counter_in` meets its contract: from what its callees promise. Assumes nothing.
use native.Mathlib.Omega.{arith}
use Rattle.reads.specs.Reads.{counter_in}
use Rattle.reads.proofs.counter_in.Goals as goal

pub number_read-requires : goal.number_read-requires
number_read-requires c = omega (arith, rw c.in-Short.is at c.field_of.ensures.1)

pub get64-requires : goal.get64-requires
get64-requires c = omega (arith, rw c.in-Long.is at c.field_of.ensures.1)

pub returns-in-Short : goal.returns-in-Short
unfolding counter_in
returns-in-Short c = rw (← c.field_of.ensures.0, c.in-Short.is) c.number_read.ensures

pub returns-in-Long : goal.returns-in-Long
unfolding counter_in
returns-in-Long c = rw (← c.field_of.ensures.0, c.in-Long.is, c.get64.ensures)
