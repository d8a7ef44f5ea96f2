-- `asked::objects::ask_thread` meets its contract: from what its callees promise. Assumes nothing.
use Rattle.std.proofs.Common.{rules}
use Rattle.run_reads.specs.RunReads.{read_thread}
use Rattle.asked.specs.Asked.{asked_by}
use Rattle.asked.specs.Objects.{ask_thread}
use Rattle.asked.proofs.objects.ask_thread.Goals as goal

pub returns : goal.returns
unfolding ask_thread
returns c = rw (← c.thread_field_of.ensures) (asked_by _ (read_thread _) _ _ _ (λ q p. search rules) c.ask.ensures)
