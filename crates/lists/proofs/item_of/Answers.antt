-- `lists::item_of` meets its contract: from what its callees promise. Assumes nothing.
use Rattle.base.specs.Ways.{if_eq}
use Rattle.lists.specs.Lists.{item_of}
use Rattle.std.proofs.Common.{tests, arith}
use Rattle.std.proofs.lemmas.Grind.{common_steps}
use Rattle.lists.proofs.item_of.Goals as goal

pub returns-in-5 : goal.returns-in-5
unfolding item_of if_eq
returns-in-5 c = rw c.in-5.is

pub returns-in-6 : goal.returns-in-6
unfolding item_of if_eq
returns-in-6 c = rw c.in-6.is

pub returns-in-7 : goal.returns-in-7
unfolding item_of if_eq
returns-in-7 c = rw c.in-7.is

pub returns-in-8 : goal.returns-in-8
unfolding item_of if_eq
returns-in-8 c = rw c.in-8.is

pub returns-in-9 : goal.returns-in-9
unfolding item_of if_eq
returns-in-9 c = rw c.in-9.is

pub returns-in_default : goal.returns-in_default
unfolding item_of if_eq
returns-in_default c = grind (arith, common_steps, tests)
