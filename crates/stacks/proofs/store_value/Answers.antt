-- `stacks::store_value` meets its contract: each way by its test. Assumes nothing.
use Rattle.stacks.specs.Places.{store_value}
use Rattle.stacks.proofs.store_value.Goals as goal

pub returns-then-not-is_sound : goal.returns-then-not-is_sound
unfolding store_value
returns-then-not-is_sound c = rw (← c.is_sound.ensures, c.if-not-is_sound.true)

pub returns : goal.returns
unfolding store_value
returns c = rw (← c.is_sound.ensures, c.if-not-is_sound.false, ← c.write_value.ensures)
