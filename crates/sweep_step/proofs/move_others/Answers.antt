-- `sweep_step::move_others` meets its contract: each way by its test. Assumes nothing.
use Rattle.base.specs.Ways.{lt_yes, lt_no}
use Rattle.sweep_step.specs.Sweeping.{others_moved}
use Rattle.sweep_step.proofs.move_others.Goals as goal

pub returns-then-c-lt4 : goal.returns-then-c-lt4
unfolding others_moved
returns-then-c-lt4 c = rw c.if-s.true (lt_yes _ _ _ _ _ c.if-c-lt4.true (rw c.next_arena.ensures at c.write_cursor.ensures))

pub returns-else-c-lt4 : goal.returns-else-c-lt4
unfolding others_moved
returns-else-c-lt4 c = rw c.if-s.true (lt_no _ _ _ _ _ c.if-c-lt4.false c.put.ensures)

pub returns-else-s : goal.returns-else-s
unfolding others_moved
returns-else-s c = rw c.if-s.false (rw c.advance.ensures at c.write_cursor-else-s.ensures)
