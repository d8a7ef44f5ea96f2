-- `lists::pop` meets its contract: each way by its test. Assumes nothing.
use mathlib.Core.Path.{refl}
use native.Mathlib.Omega.{arith}
use Rattle.base.specs.Ways.{eq_yes, eq_no}
use Rattle.lists.specs.Lists.{pop}
use Rattle.lists.proofs.pop.Goals as goal

pub returns-then-n-eq0 : goal.returns-then-n-eq0
unfolding pop
returns-then-n-eq0 c = eq_yes _ _ _ _ _ (omega arith) refl

pub returns : goal.returns
unfolding pop
returns c = eq_no _ _ _ _ _ (λ e. omega arith) (rw (← c.length_of-n.ensures.0, ← c.item_at-x.ensures, ← c.take_out.ensures))
