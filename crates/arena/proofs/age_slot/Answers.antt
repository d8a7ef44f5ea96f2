-- `arena::age_slot` meets its contract: a store keeps the length. Assumes nothing.
use Rattle.std.proofs.Common.{arith, length-set, refl}
use Rattle.arena.proofs.age_slot.Goals as goal

pub bounds-w-at : goal.bounds-w-at
bounds-w-at c = simp length-set (omega arith)

pub bounds-w-at-2 : goal.bounds-w-at-2
bounds-w-at-2 c = simp length-set (omega arith)

pub bounds-w-paint : goal.bounds-w-paint
bounds-w-paint c = simp length-set (omega arith)

pub returns : goal.returns
returns c = refl
