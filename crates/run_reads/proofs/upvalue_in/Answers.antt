-- `run_reads::upvalue_in` meets its contract: from what its callees promise. Assumes nothing.
use Rattle.run_reads.proofs.upvalue_in.Goals as goal

pub returns-in-Closed : goal.returns-in-Closed
returns-in-Closed c = rw c.in-Closed.is (rw (← c.is_closed.ensures) c.flag_read.ensures)

pub returns-in-Value : goal.returns-in-Value
returns-in-Value c = rw (c.in-Value.is, c.upvalue_value.ensures)
