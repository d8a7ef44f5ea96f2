-- `asked::objects::ask_userdata` meets its contract: from what its callees promise. Assumes nothing.
use Rattle.std.proofs.Common.{rules}
use Rattle.table_reads.specs.TableReads.{read_userdata}
use Rattle.asked.specs.Asked.{asked_by}
use Rattle.asked.specs.Objects.{ask_userdata}
use Rattle.asked.proofs.objects.ask_userdata.Goals as goal

pub returns : goal.returns
unfolding ask_userdata
returns c = rw (← c.userdata_field_of.ensures) (asked_by _ (read_userdata _) _ _ _ (λ q p. search rules) c.ask.ensures)
