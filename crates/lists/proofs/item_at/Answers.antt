-- `lists::item_at` meets its contract: each way by its test. Assumes nothing.
use mathlib.Core.Path.{refl}
use native.Mathlib.Omega.{arith}
use Rattle.base.specs.Ways.{le_yes, le_no}
use Rattle.lists.specs.Lists.{item_at}
use Rattle.lists.proofs.item_at.Goals as goal

pub returns-then-length_of-i : goal.returns-then-length_of-i
unfolding item_at
returns-then-length_of-i c = le_yes _ _ _ _ _ (omega arith) refl

pub returns-else-length_of-i : goal.returns-else-length_of-i
unfolding item_at
returns-else-length_of-i c = le_no _ _ _ _ _ (omega arith) c.read_item.ensures
