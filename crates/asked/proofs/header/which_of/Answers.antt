-- `asked::header::which_of` meets its contract: a row of the table, or past its end. Assumes nothing.
use Rattle.std.proofs.Common.{rules}
use Rattle.codes.specs.Numbers.{pick, past}
use Rattle.asked.specs.Header.{which_of}
use Rattle.asked.proofs.header.which_of.Goals as goal

pub returns-in-0 : goal.returns-in-0
unfolding which_of pick
returns-in-0 c = rw c.in-0.is

pub returns-in-1 : goal.returns-in-1
unfolding which_of pick
returns-in-1 c = rw c.in-1.is

pub returns-in-2 : goal.returns-in-2
unfolding which_of pick
returns-in-2 c = rw c.in-2.is

pub returns-in-3 : goal.returns-in-3
unfolding which_of pick
returns-in-3 c = rw c.in-3.is

pub returns-in_default : goal.returns-in_default
unfolding which_of
returns-in_default c = past _ _ _ _ (search rules)
