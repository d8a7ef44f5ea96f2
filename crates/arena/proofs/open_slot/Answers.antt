-- `arena::open_slot` meets its contract: a store keeps the length. Assumes nothing.
use Rattle.std.proofs.Common.{arith, length-set}
use Rattle.arena.proofs.open_slot.Goals as goal

pub bounds-w-at : goal.bounds-w-at
bounds-w-at c = simp length-set (omega arith)
