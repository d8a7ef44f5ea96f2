-- `stacks::set_value` meets its contract: each way by its test. Assumes nothing.
use mathlib.Core.Path.{refl}
use Rattle.base.specs.Ways.{le_no, le_yes}
use Rattle.stacks.specs.Values.{set_value}
use Rattle.stacks.proofs.set_value.Goals as goal

pub returns-then-s-k : goal.returns-then-s-k
unfolding set_value
returns-then-s-k c = rw (← c.wide-k.ensures.0) (le_yes _ _ _ _ _ c.if-s-k.true refl)

pub returns : goal.returns
unfolding set_value
returns c = rw (← c.wide-k.ensures.0) (le_no _ _ _ _ _ c.if-s-k.false c.store_value.ensures)
