-- `upvalue_lists::cut_upvalues` meets its contract: each way by its test. Assumes nothing.
use mathlib.Core.Path.{refl}
use Rattle.base.specs.Ways.{lt_no, lt_yes}
use Rattle.upvalue_lists.specs.Lists.{cut_upvalues}
use Rattle.upvalue_lists.proofs.cut_upvalues.Goals as goal

pub returns-then-s-k : goal.returns-then-s-k
unfolding cut_upvalues
returns-then-s-k c = rw (← c.wide-k.ensures.0) (lt_yes _ _ _ _ _ c.if-s-k.true refl)

pub returns : goal.returns
unfolding cut_upvalues
returns c = rw (← c.wide-k.ensures.0) (lt_no _ _ _ _ _ c.if-s-k.false (rw (← c.clear_words.ensures, ← c.put_number.ensures)))
