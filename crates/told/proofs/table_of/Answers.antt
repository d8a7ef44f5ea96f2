-- `told::table_of` meets its contract: each way by its test. Assumes nothing.
use mathlib.Core.Path.{refl}
use native.Mathlib.Omega.{arith}
use Rattle.base.specs.Ways.{eq_yes, eq_no}
use Rattle.told.specs.Numbers.{table_of}
use Rattle.told.proofs.table_of.Goals as goal

pub returns-then-some-eq0 : goal.returns-then-some-eq0
unfolding table_of
returns-then-some-eq0 c = eq_yes _ _ _ _ _ (omega arith) refl

pub returns-else-some-eq0 : goal.returns-else-some-eq0
unfolding table_of
returns-else-some-eq0 c = eq_no _ _ _ _ _ (omega arith) refl
