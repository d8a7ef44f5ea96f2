-- `main_engine::sieddesan_set_top` meets its contract: from what its callees promise. Assumes nothing.
use Rattle.told.specs.Answers.{served_told}
use Rattle.main_engine.proofs.sieddesan_set_top.Goals as goal

pub returns : goal.returns
returns c = served_told _ _ _ _ _ c.set_top-a.ensures c.code.ensures
