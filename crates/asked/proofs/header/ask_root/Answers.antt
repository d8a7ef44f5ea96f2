-- `asked::header::ask_root` meets its contract: from what its callees promise. Assumes nothing.
use Rattle.std.proofs.Common.{rules}
use Rattle.reads.specs.Reads.{read_root}
use Rattle.asked.specs.Asked.{asked_by}
use Rattle.asked.specs.Header.{ask_root}
use Rattle.asked.proofs.header.ask_root.Goals as goal

pub returns : goal.returns
unfolding ask_root
returns c = rw (← c.root_of.ensures) (asked_by _ read_root _ _ _ (λ q p. search rules) c.ask.ensures)
