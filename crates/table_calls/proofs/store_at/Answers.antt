-- `table_calls::store_at` meets its contract: each way by its test. Assumes nothing.
use mathlib.Core.Path.{◌∙◌, refl}
use native.Mathlib.Omega.{arith}
use Rattle.base.specs.Ways.{le_no, le_yes}
use Rattle.table_calls.specs.TableCalls.{store_at}
use Rattle.table_calls.proofs.store_at.Goals as goal

pub returns-then-array_size-i : goal.returns-then-array_size-i
unfolding store_at
returns-then-array_size-i c = le_yes _ _ _ _ _ (rw c.array_size.ensures.0 at c.if-array_size-i.true) refl

pub returns-then-not-is_sound : goal.returns-then-not-is_sound
unfolding store_at
returns-then-not-is_sound c = le_no _ _ _ _ _ (omega (arith, c.array_size.ensures.0, c.if-array_size-i.false)) (rw (← c.is_sound.ensures, c.if-not-is_sound.true))

pub set_array_value-requires : goal.set_array_value-requires
set_array_value-requires c = record { p_in_bounds = c.requires.p_in_bounds; i_bound = omega (arith, c.array_size.ensures.1, c.if-array_size-i.false) }

pub barrier_back-requires : goal.barrier_back-requires
barrier_back-requires c = record { l_in_bounds = omega (arith, c.requires.l_in_bounds, c.set_array_value.auto.w) }

pub shape_of-w : goal.shape_of-w
shape_of-w c = c.barrier_back.auto.w ∙ c.set_array_value.auto.w

pub returns : goal.returns
unfolding store_at
returns c = le_no _ _ _ _ _ (omega (arith, c.array_size.ensures.0, c.if-array_size-i.false)) (rw (← c.is_sound.ensures, c.if-not-is_sound.false, ← c.set_array_value.ensures, ← c.barrier_back.ensures))
