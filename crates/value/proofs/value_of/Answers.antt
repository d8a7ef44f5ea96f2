-- `value::value_of` meets its contract: from what its callees promise. Assumes nothing.
use Rattle.base.specs.Ways.{if_eq}
use Rattle.value.specs.Values.{value_of}
use Rattle.std.proofs.Common.{tests, arith}
use Rattle.std.proofs.lemmas.Grind.{common_steps}
use Rattle.value.proofs.value_of.Goals as goal

pub returns-in-1 : goal.returns-in-1
unfolding value_of if_eq
returns-in-1 c = rw c.in-1.is

pub returns-in-2 : goal.returns-in-2
unfolding value_of if_eq
returns-in-2 c = rw (c.in-2.is, c.joined.ensures)

pub returns-in-3 : goal.returns-in-3
unfolding value_of if_eq
returns-in-3 c = rw (c.in-3.is, c.joined-in-3.ensures)

pub returns-in-4 : goal.returns-in-4
unfolding value_of if_eq
returns-in-4 c = rw c.in-4.is

pub returns-in-5 : goal.returns-in-5
unfolding value_of if_eq
returns-in-5 c = rw c.in-5.is

pub returns-in-6 : goal.returns-in-6
unfolding value_of if_eq
returns-in-6 c = rw c.in-6.is

pub returns-in-7 : goal.returns-in-7
unfolding value_of if_eq
returns-in-7 c = rw c.in-7.is

pub returns-in-8 : goal.returns-in-8
unfolding value_of if_eq
returns-in-8 c = rw c.in-8.is

pub returns-in_default : goal.returns-in_default
unfolding value_of if_eq
returns-in_default c = grind (arith, common_steps, tests)
