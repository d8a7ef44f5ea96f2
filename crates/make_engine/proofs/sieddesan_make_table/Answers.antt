-- `make_engine::sieddesan_make_table` meets its contract: each way by its test. Assumes nothing.
use Rattle.told.specs.Answers.{lent_short, lent_told}
use Rattle.make_engine.proofs.sieddesan_make_table.Goals as goal

pub returns-then-out-lt2 : goal.returns-then-out-lt2
returns-then-out-lt2 c = lent_short _ _ _ _ _ c.if-out-lt2.true

pub returns : goal.returns
returns c = lent_told _ _ _ _ _ _ _ _ _ c.if-out-lt2.false c.make_table-a.ensures c.tell_made.ensures
