-- `upvalue_lists::push_upvalue` meets its contract: each way by its test. Assumes nothing.
use mathlib.Core.Path.{refl}
use Rattle.base.specs.Ways.{le_no, le_yes}
use Rattle.upvalue_lists.specs.Lists.{push_upvalue}
use Rattle.upvalue_lists.proofs.push_upvalue.Goals as goal

pub returns-then-s : goal.returns-then-s
unfolding push_upvalue
returns-then-s c = le_yes _ _ _ _ _ c.if-s.true refl

pub returns-then-not-is_upvalue : goal.returns-then-not-is_upvalue
unfolding push_upvalue
returns-then-not-is_upvalue c = le_no _ _ _ _ _ c.if-s.false (rw (← c.is_upvalue.ensures, c.if-not-is_upvalue.true))

pub returns : goal.returns
unfolding push_upvalue
returns c = le_no _ _ _ _ _ c.if-s.false (rw (← c.is_upvalue.ensures, c.if-not-is_upvalue.false, ← c.write_upval.ensures, ← c.put_number.ensures))
