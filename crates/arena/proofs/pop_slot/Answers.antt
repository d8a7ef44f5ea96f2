-- `arena::pop_slot` meets its contract: a store keeps the length. Assumes nothing.
use Rattle.std.proofs.Common.{arith, length-set}
use Rattle.arena.proofs.pop_slot.Goals as goal

pub bounds-w-at-2 : goal.bounds-w-at-2
bounds-w-at-2 c = simp length-set (omega arith)
