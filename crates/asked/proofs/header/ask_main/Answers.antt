-- `asked::header::ask_main` meets its contract: from what its callees promise. Assumes nothing.
use Rattle.std.proofs.Common.{rules}
use Rattle.part_reads.specs.PartReads.{read_main}
use Rattle.asked.specs.Asked.{asked_by}
use Rattle.asked.specs.Header.{ask_main}
use Rattle.asked.proofs.header.ask_main.Goals as goal

pub returns : goal.returns
unfolding ask_main
returns c = rw (← c.main_of.ensures) (asked_by _ read_main _ _ _ (λ q p. search rules) c.ask.ensures)
