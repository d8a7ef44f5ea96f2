-- `arena::push_slot` meets its contract: a store keeps the length. Assumes nothing.
use Rattle.std.proofs.Common.{arith, length-set}
use Rattle.arena.proofs.push_slot.Goals as goal

pub bounds-w-top-2 : goal.bounds-w-top-2
bounds-w-top-2 c = simp length-set (omega arith)

pub bounds-w-count : goal.bounds-w-count
bounds-w-count c = simp length-set (omega arith)

pub bounds-w-count-2 : goal.bounds-w-count-2
bounds-w-count-2 c = simp length-set (omega arith)

pub returns : goal.returns
returns c = rw c.count_down.ensures
