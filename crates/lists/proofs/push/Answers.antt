-- `lists::push` meets its contract: each way by its test. Assumes nothing.
use native.Mathlib.Omega.{arith}
use Rattle.base.specs.Ways.{lt_yes, lt_no}
use Rattle.lists.specs.Lists.{push}
use Rattle.lists.proofs.push.Goals as goal

pub returns-then-n-l : goal.returns-then-n-l
unfolding push
returns-then-n-l c = lt_yes _ _ _ _ _ (omega arith) (rw (← c.length_of-n.ensures.0) c.store.ensures)

pub returns-else-n-l : goal.returns-else-n-l
unfolding push
returns-else-n-l c = lt_no _ _ _ _ _ (omega arith) c.put.ensures
