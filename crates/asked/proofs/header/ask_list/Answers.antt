-- `asked::header::ask_list` meets its contract: from what its callees promise. Assumes nothing.
use Rattle.std.proofs.Common.{rules}
use Rattle.part_reads.specs.PartReads.{read_list}
use Rattle.asked.specs.Asked.{asked_by}
use Rattle.asked.specs.Header.{ask_list}
use Rattle.asked.proofs.header.ask_list.Goals as goal

pub returns : goal.returns
unfolding ask_list
returns c = rw (← c.which_of.ensures, ← c.listed_of.ensures, ← c.zip.ensures) (asked_by _ (λ p. read_list p.0 p.1) _ _ _ (λ q p. search rules) c.ask.ensures)
