-- `object_calls::forward_table` meets its contract: by the two cases. Assumes nothing.
use Rattle.object_calls.specs.ObjectCalls.{forward_table}
use Rattle.object_calls.proofs.forward_table.Goals as goal

pub returns-in-Some : goal.returns-in-Some
unfolding forward_table
returns-in-Some c = rw c.in-Some.is c.barrier_forward.ensures

pub returns-in_default : goal.returns-in_default
unfolding forward_table
returns-in_default c = rw c.in_default.is
