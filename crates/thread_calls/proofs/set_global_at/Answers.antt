-- `thread_calls::set_global_at` meets its contract: each way by its test. Assumes nothing.
use Rattle.thread_calls.specs.ThreadCalls.{global_at}
use Rattle.thread_calls.proofs.set_global_at.Goals as goal

pub returns-then-not-is_table : goal.returns-then-not-is_table
unfolding global_at
returns-then-not-is_table c = rw (← c.is_table.ensures, c.if-not-is_table.true)

pub returns : goal.returns
unfolding global_at
returns c = rw (← c.is_table.ensures, c.if-not-is_table.false, ← c.set_thread_global.ensures)
