-- `thread_engine::sieddesan_thread_set_global` meets its contract: from what its callees promise. Assumes nothing.
use Rattle.told.specs.Answers.{served_told}
use Rattle.thread_engine.proofs.sieddesan_thread_set_global.Goals as goal

pub returns : goal.returns
returns c = served_told _ _ _ _ _ c.thread_set_global-a.ensures c.code.ensures
