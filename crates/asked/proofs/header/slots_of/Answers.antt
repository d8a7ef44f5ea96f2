-- `asked::header::slots_of` meets its contract: a row of the table, or past its end. Assumes nothing.
use Rattle.std.proofs.Common.{rules}
use Rattle.codes.specs.Numbers.{pick, past}
use Rattle.asked.specs.Header.{slots_of}
use Rattle.asked.proofs.header.slots_of.Goals as goal

pub returns-in-0 : goal.returns-in-0
unfolding slots_of pick
returns-in-0 c = rw c.in-0.is

pub returns-in-1 : goal.returns-in-1
unfolding slots_of pick
returns-in-1 c = rw c.in-1.is

pub returns-in-2 : goal.returns-in-2
unfolding slots_of pick
returns-in-2 c = rw c.in-2.is

pub returns-in-3 : goal.returns-in-3
unfolding slots_of pick
returns-in-3 c = rw c.in-3.is

pub returns-in-4 : goal.returns-in-4
unfolding slots_of pick
returns-in-4 c = rw c.in-4.is

pub returns-in-5 : goal.returns-in-5
unfolding slots_of pick
returns-in-5 c = rw c.in-5.is

pub returns-in_default : goal.returns-in_default
unfolding slots_of
returns-in_default c = past _ _ _ _ (search rules)
