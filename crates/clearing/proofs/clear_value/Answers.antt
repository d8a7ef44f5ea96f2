-- `clearing::clear_value` meets its contract: the callees' equations joined. Assumes nothing.
use mathlib.Core.Path.{refl}
use Rattle.clearing.specs.Entries.{clear_value}
use Rattle.clearing.proofs.clear_value.Goals as goal

pub read_value-v-requires : goal.read_value-v-requires
read_value-v-requires c = c.requires.p_in_bounds

pub is_dead-requires : goal.is_dead-requires
is_dead-requires c = record { l_in_bounds = c.requires.l_in_bounds }

pub put3-requires : goal.put3-requires
put3-requires c = c.requires.p_in_bounds

pub shape_of-w-then-is_dead : goal.shape_of-w-then-is_dead
shape_of-w-then-is_dead c = c.put3.auto.w

pub returns-then-is_dead : goal.returns-then-is_dead
unfolding clear_value
returns-then-is_dead c = rw (← c.read_value-v.ensures, ← c.is_dead.ensures, c.if-is_dead.true) c.put3.ensures

pub shape_of-w-else-is_dead : goal.shape_of-w-else-is_dead
shape_of-w-else-is_dead c = refl

pub returns-else-is_dead : goal.returns-else-is_dead
unfolding clear_value
returns-else-is_dead c = rw (← c.read_value-v.ensures, ← c.is_dead.ensures, c.if-is_dead.false)
