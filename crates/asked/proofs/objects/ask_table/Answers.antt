-- `asked::objects::ask_table` meets its contract: from what its callees promise. Assumes nothing.
use Rattle.std.proofs.Common.{rules}
use Rattle.table_reads.specs.TableReads.{read_table}
use Rattle.asked.specs.Asked.{asked_by}
use Rattle.asked.specs.Objects.{ask_table}
use Rattle.asked.proofs.objects.ask_table.Goals as goal

pub returns : goal.returns
unfolding ask_table
returns c = rw (← c.table_field_of.ensures) (asked_by _ (read_table _) _ _ _ (λ q p. search rules) c.ask.ensures)
