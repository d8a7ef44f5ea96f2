-- `make_threads::thread_in` meets its contract: each way by its test. Assumes nothing.
use mathlib.Core.Path.{refl}
use Rattle.base.specs.Ways.{lt_no, lt_yes}
use Rattle.make_threads.specs.Making.{thread_in}
use Rattle.make_threads.proofs.thread_in.Goals as goal

pub returns-then-stack-gt64 : goal.returns-then-stack-gt64
unfolding thread_in
returns-then-stack-gt64 c = lt_yes _ _ _ _ _ c.if-stack-gt64.true refl

pub returns-then-is_table : goal.returns-then-is_table
unfolding thread_in
returns-then-is_table c = lt_no _ _ _ _ _ c.if-stack-gt64.false (rw (← c.is_table.ensures, c.if-is_table.true) (rw c.wide.ensures.0 at c.new_thread.ensures))

pub returns-else-is_table : goal.returns-else-is_table
unfolding thread_in
returns-else-is_table c = lt_no _ _ _ _ _ c.if-stack-gt64.false (rw (← c.is_table.ensures, c.if-is_table.false))
