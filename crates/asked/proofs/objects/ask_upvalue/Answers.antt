-- `asked::objects::ask_upvalue` meets its contract: from what its callees promise. Assumes nothing.
use Rattle.std.proofs.Common.{rules}
use Rattle.run_reads.specs.RunReads.{read_upvalue}
use Rattle.asked.specs.Asked.{asked_by}
use Rattle.asked.specs.Objects.{ask_upvalue}
use Rattle.asked.proofs.objects.ask_upvalue.Goals as goal

pub returns : goal.returns
unfolding ask_upvalue
returns c = rw (← c.upvalue_field_of.ensures) (asked_by _ (read_upvalue _) _ _ _ (λ q p. search rules) c.ask.ensures)
