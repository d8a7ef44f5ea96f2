-- `asked::header::ask_size` meets its contract: from what its callees promise. Assumes nothing.
use Rattle.std.proofs.Common.{rules}
use Rattle.reads.specs.Reads.{read_size}
use Rattle.asked.specs.Asked.{asked_by}
use Rattle.asked.specs.Header.{ask_size}
use Rattle.asked.proofs.header.ask_size.Goals as goal

pub returns : goal.returns
unfolding ask_size
returns c = rw (← c.size_of.ensures) (asked_by _ read_size _ _ _ (λ q p. search rules) c.ask.ensures)
