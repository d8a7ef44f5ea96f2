-- `record::body_of` meets its contract: a row of the slots ends within the rows. Assumes nothing.
use mathlib.Core.Path.{refl}
use native.Mathlib.Omega.{arith}
use Rattle.arena.specs.Slots.{row}
use Rattle.record.proofs.body_of.Goals as goal

pub overflow_mul-result : goal.overflow_mul-result
overflow_mul-result c = omega (arith, row c.args.a.stride c.requires.i_lt_slots)

pub overflow_add-result : goal.overflow_add-result
overflow_add-result c = omega (arith, row c.args.a.stride c.requires.i_lt_slots)

pub returns : goal.returns
returns c = (refl, omega (arith, row c.args.a.stride c.requires.i_lt_slots))
