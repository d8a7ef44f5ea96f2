-- `arena::clear_body` meets its contract: a row of the slots ends within the rows. Assumes nothing.
use Rattle.std.proofs.Common.{arith}
use Rattle.arena.specs.Slots.{row}
use Rattle.arena.proofs.clear_body.Goals as goal

pub overflow_mul-body : goal.overflow_mul-body
overflow_mul-body c = omega (arith, row c.args.a.stride c.requires.i_lt_slots)

pub overflow_add-body : goal.overflow_add-body
overflow_add-body c = omega (arith, row c.args.a.stride c.requires.i_lt_slots)

pub clear_words-requires : goal.clear_words-requires
clear_words-requires c = omega (arith, row c.args.a.stride c.requires.i_lt_slots)

pub returns : goal.returns
returns c = rw (← c.extent_of-n.ensures.0) c.clear_words.ensures
