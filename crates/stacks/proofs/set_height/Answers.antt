-- `stacks::set_height` meets its contract: each way by its test. Assumes nothing.
use mathlib.Core.Path.{refl}
use Rattle.base.specs.Ways.{lt_no, lt_yes}
use Rattle.stacks.specs.Values.{set_height}
use Rattle.stacks.proofs.set_height.Goals as goal

pub returns-then-s-top : goal.returns-then-s-top
unfolding set_height
returns-then-s-top c = rw (← c.wide-top.ensures.0) (lt_yes _ _ _ _ _ c.if-s-top.true refl)

pub returns : goal.returns
unfolding set_height
returns c = rw (← c.wide-top.ensures.0) (lt_no _ _ _ _ _ c.if-s-top.false (rw (← c.raise.ensures, ← c.put_number.ensures)))
