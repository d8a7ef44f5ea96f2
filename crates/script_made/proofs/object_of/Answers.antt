-- `script_made::object_of` meets its contract: by cases of the number. Assumes nothing.
use native.Mathlib.Omega.{arith}
use mathlib.Core.Path.{refl}
use Rattle.base.specs.Ways.{lt_yes, lt_no, eq_yes, eq_no}
use Rattle.script_made.specs.Objects.{object_of}
use Rattle.script_made.proofs.object_of.Goals as goal

pub returns-then-n-eq0 : goal.returns-then-n-eq0
unfolding object_of
returns-then-n-eq0 c = eq_yes _ _ _ _ _ (omega arith) refl

pub returns-then-count_of-n : goal.returns-then-count_of-n
unfolding object_of
returns-then-count_of-n c = eq_no _ _ _ _ _ (λ e. omega arith) (lt_yes _ _ _ _ _ (omega arith) refl)

pub returns-else-count_of-n : goal.returns-else-count_of-n
unfolding object_of
returns-else-count_of-n c = eq_no _ _ _ _ _ (λ e. omega arith) (lt_no _ _ _ _ _ (omega arith) (rw (c.read_value.ensures, c.wide-n.ensures.0)))
