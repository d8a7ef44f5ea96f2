-- `store_engine::sieddesan_upvalue_set` meets its contract: each way by its test. Assumes nothing.
use mathlib.Core.Path.{refl}
use Rattle.std.specs.Prelude.{Err}
use Rattle.told.specs.Answers.{served_told}
use Rattle.told.specs.Numbers.{tagged_no, tagged_yes}
use Rattle.store_engine.proofs.sieddesan_upvalue_set.Goals as goal

pub returns-then-tag-gt8 : goal.returns-then-tag-gt8
returns-then-tag-gt8 c = served_told _ _ (Err _) _ _ (tagged_no Err _ _ _ _ c.if-tag-gt8.true refl) c.no_number.ensures

pub returns : goal.returns
returns c = rw (← c.value_of.ensures) (served_told _ _ _ _ _ (tagged_yes Err _ _ _ _ c.if-tag-gt8.false c.upvalue_set-a.ensures) c.code.ensures)
