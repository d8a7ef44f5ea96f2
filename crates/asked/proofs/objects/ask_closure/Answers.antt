-- `asked::objects::ask_closure` meets its contract: from what its callees promise. Assumes nothing.
use Rattle.std.proofs.Common.{rules}
use Rattle.run_reads.specs.RunReads.{read_closure}
use Rattle.asked.specs.Asked.{asked_by}
use Rattle.asked.specs.Objects.{ask_closure}
use Rattle.asked.proofs.objects.ask_closure.Goals as goal

pub returns : goal.returns
unfolding ask_closure
returns c = rw (← c.closure_field_of.ensures) (asked_by _ (read_closure _) _ _ _ (λ q p. search rules) c.ask.ensures)
