-- `stacks::push_value` meets its contract: each way by its test. Assumes nothing.
use mathlib.Core.Path.{refl}
use Rattle.base.specs.Ways.{le_no, le_yes}
use Rattle.stacks.specs.Values.{push_value}
use Rattle.stacks.proofs.push_value.Goals as goal

pub returns-then-s : goal.returns-then-s
unfolding push_value
returns-then-s c = le_yes _ _ _ _ _ c.if-s.true refl

pub returns-then-not-is_sound : goal.returns-then-not-is_sound
unfolding push_value
returns-then-not-is_sound c = le_no _ _ _ _ _ c.if-s.false (rw (← c.is_sound.ensures, c.if-not-is_sound.true))

pub returns : goal.returns
unfolding push_value
returns c = le_no _ _ _ _ _ c.if-s.false (rw (← c.is_sound.ensures, c.if-not-is_sound.false, ← c.write_value.ensures, ← c.put_number.ensures))
