-- `make_engine::sieddesan_make_closed_upvalue` meets its contract: each way by its test. Assumes nothing.
use mathlib.Core.Path.{refl}
use Rattle.std.specs.Prelude.{Err}
use Rattle.told.specs.Answers.{lent_short, lent_told}
use Rattle.told.specs.Numbers.{tagged_no, tagged_yes}
use Rattle.make_codes.specs.Codes.{made_told}
use Rattle.make_engine.proofs.sieddesan_make_closed_upvalue.Goals as goal

pub returns-then-out-lt2 : goal.returns-then-out-lt2
returns-then-out-lt2 c = lent_short _ _ _ _ _ c.if-out-lt2.true

pub returns-then-tag-gt8 : goal.returns-then-tag-gt8
unfolding made_told
returns-then-tag-gt8 c = lent_told _ _ _ _ _ (Err _) _ _ _ c.if-out-lt2.false (tagged_no Err _ _ _ _ c.if-tag-gt8.true refl) (rw c.no_number.ensures)

pub returns : goal.returns
returns c = rw (← c.value_of.ensures) (lent_told _ _ _ _ _ _ _ _ _ c.if-out-lt2.false (tagged_yes Err _ _ _ _ c.if-tag-gt8.false c.make_closed_upvalue-a.ensures) c.tell_made.ensures)
