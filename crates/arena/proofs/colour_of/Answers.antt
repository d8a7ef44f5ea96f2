-- `arena::colour_of` meets its contract: each way by its test. Assumes nothing.
use Rattle.std.proofs.Common.{refl, arith}
use Rattle.base.specs.Ways.{le_yes, le_no}
use Rattle.arena.proofs.colour_of.Goals as goal

pub returns-then-c-le4 : goal.returns-then-c-le4
returns-then-c-le4 c = le_yes _ _ _ _ _ (omega arith) refl

pub returns-else-c-le4 : goal.returns-else-c-le4
returns-else-c-le4 c = le_no _ _ _ _ _ (omega arith) refl
