-- `asked::objects::ask_string` meets its contract: from what its callees promise. Assumes nothing.
use Rattle.std.proofs.Common.{rules}
use Rattle.table_reads.specs.TableReads.{read_string}
use Rattle.asked.specs.Asked.{asked_by}
use Rattle.asked.specs.Objects.{ask_string}
use Rattle.asked.proofs.objects.ask_string.Goals as goal

pub returns : goal.returns
unfolding ask_string
returns c = rw (← c.string_field_of.ensures) (asked_by _ (read_string _) _ _ _ (λ q p. search rules) c.ask.ensures)
