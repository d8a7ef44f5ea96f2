-- `store_engine::sieddesan_table_set_node` meets its contract: each way by its test. Assumes nothing.
use mathlib.Core.Path.{refl}
use Rattle.std.specs.Prelude.{Err}
use Rattle.std.proofs.Common.{arith}
use Rattle.told.specs.Answers.{served_told}
use Rattle.told.specs.Numbers.{tagged_no, tagged_yes}
use Rattle.store_engine.proofs.sieddesan_table_set_node.Goals as goal

pub returns-then-ktag-gt8 : goal.returns-then-ktag-gt8
returns-then-ktag-gt8 c = served_told _ _ (Err _) _ _ (tagged_no Err _ _ _ _ (omega arith) refl) c.no_number.ensures

pub returns-then-tag-gt8 : goal.returns-then-tag-gt8
returns-then-tag-gt8 c = served_told _ _ (Err _) _ _ (tagged_yes Err _ _ _ _ (omega arith) (tagged_no Err _ _ _ _ (omega arith) refl)) c.no_number-then-tag-gt8.ensures

pub returns : goal.returns
returns c = rw (← c.value_of.ensures, ← c.value_of-2.ensures) (served_told _ _ _ _ _ (tagged_yes Err _ _ _ _ (omega arith) (tagged_yes Err _ _ _ _ (omega arith) c.table_set_node-a.ensures)) c.code.ensures)
