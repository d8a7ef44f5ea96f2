-- `main_engine::sieddesan_open_push` meets its contract: from what its callees promise. Assumes nothing.
use Rattle.told.specs.Answers.{served_told}
use Rattle.main_engine.proofs.sieddesan_open_push.Goals as goal

pub returns : goal.returns
returns c = served_told _ _ _ _ _ c.open_push-a.ensures c.code.ensures
