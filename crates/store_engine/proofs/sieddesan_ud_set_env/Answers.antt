-- `store_engine::sieddesan_ud_set_env` meets its contract: each way by its test. Assumes nothing.
use mathlib.Core.Path.{refl}
use Rattle.std.specs.Prelude.{Err}
use Rattle.told.specs.Answers.{served_told}
use Rattle.told.specs.Numbers.{optional_no, optional_yes}
use Rattle.store_engine.proofs.sieddesan_ud_set_env.Goals as goal

pub returns-then-some-gt1 : goal.returns-then-some-gt1
returns-then-some-gt1 c = served_told _ _ (Err _) _ _ (optional_no Err _ _ _ _ c.if-some-gt1.true refl) c.no_number.ensures

pub returns : goal.returns
returns c = rw (← c.table_of.ensures) (served_told _ _ _ _ _ (optional_yes Err _ _ _ _ c.if-some-gt1.false c.ud_set_env-a.ensures) c.code.ensures)
