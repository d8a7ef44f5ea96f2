-- `arena::clear_text` meets its contract: a row of the slots ends within the rows. Assumes nothing.
use Rattle.std.proofs.Common.{arith}
use Rattle.arena.specs.Slots.{row}
use Rattle.arena.proofs.clear_text.Goals as goal

pub overflow_mul-text : goal.overflow_mul-text
overflow_mul-text c = omega (arith, row c.args.a.width c.requires.i_lt_slots)

pub clear_bytes-requires : goal.clear_bytes-requires
clear_bytes-requires c = omega (arith, row c.args.a.width c.requires.i_lt_slots)
