-- `make_threads::closed_in` meets its contract: each way by its test. Assumes nothing.
use Rattle.make_threads.specs.Making.{closed_in}
use Rattle.make_threads.proofs.closed_in.Goals as goal

pub returns-then-is_sound : goal.returns-then-is_sound
unfolding closed_in
returns-then-is_sound c = rw (← c.is_sound.ensures, c.if-is_sound.true) c.new_upvalue.ensures

pub returns-else-is_sound : goal.returns-else-is_sound
unfolding closed_in
returns-else-is_sound c = rw (← c.is_sound.ensures, c.if-is_sound.false)
