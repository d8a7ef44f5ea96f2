-- `main_engine::sieddesan_pop` meets its contract: each way by its test. Assumes nothing.
use Rattle.told.specs.Answers.{lent_short, lent_told}
use Rattle.main_engine.proofs.sieddesan_pop.Goals as goal

pub returns-then-out-lt3 : goal.returns-then-out-lt3
returns-then-out-lt3 c = lent_short _ _ _ _ _ c.if-out-lt3.true

pub returns : goal.returns
returns c = lent_told _ _ _ _ _ _ _ _ _ c.if-out-lt3.false c.pop-a.ensures c.tell_value.ensures
