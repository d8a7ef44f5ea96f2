-- `value::handle_of` meets its contract: each way by its test. Assumes nothing.
use Rattle.std.proofs.Common.{refl}
use Rattle.base.specs.Ways.{eq_yes, eq_no}
use Rattle.value.specs.Handles.{handle_of}
use Rattle.value.proofs.handle_of.Goals as goal

pub returns-then-first-eq0 : goal.returns-then-first-eq0
unfolding handle_of
returns-then-first-eq0 c = eq_yes _ _ _ _ _ c.if-first-eq0.true refl

pub returns-else-first-eq0 : goal.returns-else-first-eq0
unfolding handle_of
returns-else-first-eq0 c = eq_no _ _ _ _ _ c.if-first-eq0.false refl
