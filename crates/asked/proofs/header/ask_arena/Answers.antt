-- `asked::header::ask_arena` meets its contract: from what its callees promise. Assumes nothing.
use Rattle.std.proofs.Common.{rules}
use Rattle.part_reads.specs.PartReads.{read_arena}
use Rattle.asked.specs.Asked.{asked_by}
use Rattle.asked.specs.Header.{ask_arena}
use Rattle.asked.proofs.header.ask_arena.Goals as goal

pub returns : goal.returns
unfolding ask_arena
returns c = rw (← c.kind_of.ensures, ← c.slots_of.ensures, ← c.zip.ensures) (asked_by _ (λ p. read_arena p.0 p.1) _ _ _ (λ q p. search rules) c.ask.ensures)
