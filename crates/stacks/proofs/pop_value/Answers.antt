-- `stacks::pop_value` meets its contract: each way by its test. Assumes nothing.
use mathlib.Core.Path.{refl}
use Rattle.base.specs.Ways.{eq_no, eq_yes}
use Rattle.stacks.specs.Values.{pop_value}
use Rattle.stacks.proofs.pop_value.Goals as goal

pub returns-then-s-eq0 : goal.returns-then-s-eq0
unfolding pop_value
returns-then-s-eq0 c = eq_yes _ _ _ _ _ c.if-s-eq0.true refl

pub returns : goal.returns
unfolding pop_value
returns c = eq_no _ _ _ _ _ c.if-s-eq0.false (rw (← c.read_value-v.ensures, ← c.put_number.ensures))
