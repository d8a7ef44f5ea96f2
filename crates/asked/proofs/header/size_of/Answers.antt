-- `asked::header::size_of` meets its contract: a row of the table, or past its end. Assumes nothing.
use Rattle.std.proofs.Common.{rules}
use Rattle.codes.specs.Numbers.{pick, past}
use Rattle.asked.specs.Header.{size_of}
use Rattle.asked.proofs.header.size_of.Goals as goal

pub returns-in-0 : goal.returns-in-0
unfolding size_of pick
returns-in-0 c = rw c.in-0.is

pub returns-in-1 : goal.returns-in-1
unfolding size_of pick
returns-in-1 c = rw c.in-1.is

pub returns-in-2 : goal.returns-in-2
unfolding size_of pick
returns-in-2 c = rw c.in-2.is

pub returns-in-3 : goal.returns-in-3
unfolding size_of pick
returns-in-3 c = rw c.in-3.is

pub returns-in-4 : goal.returns-in-4
unfolding size_of pick
returns-in-4 c = rw c.in-4.is

pub returns-in-5 : goal.returns-in-5
unfolding size_of pick
returns-in-5 c = rw c.in-5.is

pub returns-in-6 : goal.returns-in-6
unfolding size_of pick
returns-in-6 c = rw c.in-6.is

pub returns-in-7 : goal.returns-in-7
unfolding size_of pick
returns-in-7 c = rw c.in-7.is

pub returns-in-8 : goal.returns-in-8
unfolding size_of pick
returns-in-8 c = rw c.in-8.is

pub returns-in-9 : goal.returns-in-9
unfolding size_of pick
returns-in-9 c = rw c.in-9.is

pub returns-in_default : goal.returns-in_default
unfolding size_of
returns-in_default c = past _ _ _ _ (search rules)
