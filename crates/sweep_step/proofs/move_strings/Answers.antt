-- `sweep_step::move_strings` meets its contract: the callees' equations joined. Assumes nothing.
use Rattle.sweep_step.specs.Sweeping.{strings_moved}
use Rattle.sweep_step.proofs.move_strings.Goals as goal

pub returns-then-s : goal.returns-then-s
unfolding strings_moved
returns-then-s c = rw (c.if-s.true, ← (rw c.start.ensures at c.write_cursor.ensures)) c.put.ensures

pub returns-else-s : goal.returns-else-s
unfolding strings_moved
returns-else-s c = rw c.if-s.false (rw c.advance.ensures at c.write_cursor-else-s.ensures)
