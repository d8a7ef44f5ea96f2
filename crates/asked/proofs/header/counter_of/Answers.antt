-- `asked::header::counter_of` meets its contract: a row of the table, or past its end. Assumes nothing.
use Rattle.std.proofs.Common.{rules}
use Rattle.codes.specs.Numbers.{pick, past}
use Rattle.asked.specs.Header.{counter_of}
use Rattle.asked.proofs.header.counter_of.Goals as goal

pub returns-in-0 : goal.returns-in-0
unfolding counter_of pick
returns-in-0 c = rw c.in-0.is

pub returns-in-1 : goal.returns-in-1
unfolding counter_of pick
returns-in-1 c = rw c.in-1.is

pub returns-in-2 : goal.returns-in-2
unfolding counter_of pick
returns-in-2 c = rw c.in-2.is

pub returns-in-3 : goal.returns-in-3
unfolding counter_of pick
returns-in-3 c = rw c.in-3.is

pub returns-in-4 : goal.returns-in-4
unfolding counter_of pick
returns-in-4 c = rw c.in-4.is

pub returns-in-5 : goal.returns-in-5
unfolding counter_of pick
returns-in-5 c = rw c.in-5.is

pub returns-in-6 : goal.returns-in-6
unfolding counter_of pick
returns-in-6 c = rw c.in-6.is

pub returns-in-7 : goal.returns-in-7
unfolding counter_of pick
returns-in-7 c = rw c.in-7.is

pub returns-in-8 : goal.returns-in-8
unfolding counter_of pick
returns-in-8 c = rw c.in-8.is

pub returns-in-9 : goal.returns-in-9
unfolding counter_of pick
returns-in-9 c = rw c.in-9.is

pub returns-in-10 : goal.returns-in-10
unfolding counter_of pick
returns-in-10 c = rw c.in-10.is

pub returns-in-11 : goal.returns-in-11
unfolding counter_of pick
returns-in-11 c = rw c.in-11.is

pub returns-in-12 : goal.returns-in-12
unfolding counter_of pick
returns-in-12 c = rw c.in-12.is

pub returns-in-13 : goal.returns-in-13
unfolding counter_of pick
returns-in-13 c = rw c.in-13.is

pub returns-in-14 : goal.returns-in-14
unfolding counter_of pick
returns-in-14 c = rw c.in-14.is

pub returns-in-15 : goal.returns-in-15
unfolding counter_of pick
returns-in-15 c = rw c.in-15.is

pub returns-in_default : goal.returns-in_default
unfolding counter_of
returns-in_default c = past _ _ _ _ (search rules)
