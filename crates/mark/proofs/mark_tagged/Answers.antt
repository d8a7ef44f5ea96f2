-- `mark::mark_tagged` meets its contract: the callees' equations joined. Assumes nothing.
use Rattle.base.specs.Ways.{if_eq}
use Rattle.value.specs.Values.{value_of}
use Rattle.mark.specs.Marking.{mark_value}
use Rattle.mark.proofs.Laws.{plain_left}
use Rattle.std.proofs.Common.{arith}
use Rattle.mark.proofs.mark_tagged.Goals as goal

pub returns-in-4 : goal.returns-in-4
unfolding mark_value value_of if_eq
returns-in-4 c = rw c.in-4.is c.mark_string.ensures

pub returns-in-5 : goal.returns-in-5
unfolding mark_value value_of if_eq
returns-in-5 c = rw c.in-5.is c.mark_table.ensures

pub returns-in-6 : goal.returns-in-6
unfolding mark_value value_of if_eq
returns-in-6 c = rw c.in-6.is c.mark_closure.ensures

pub returns-in-7 : goal.returns-in-7
unfolding mark_value value_of if_eq
returns-in-7 c = rw c.in-7.is c.mark_userdata.ensures

pub returns-in-8 : goal.returns-in-8
unfolding mark_value value_of if_eq
returns-in-8 c = rw c.in-8.is c.mark_thread.ensures

pub returns-in_default : goal.returns-in_default
returns-in_default c = plain_left _ _ _ _ _ _ (λ e. omega arith) (λ e. omega arith) (λ e. omega arith) (λ e. omega arith) (λ e. omega arith)
