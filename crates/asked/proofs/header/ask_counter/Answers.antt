-- `asked::header::ask_counter` meets its contract: from what its callees promise. Assumes nothing.
use Rattle.std.proofs.Common.{rules}
use Rattle.reads.specs.Reads.{read_counter}
use Rattle.asked.specs.Asked.{asked_by}
use Rattle.asked.specs.Header.{ask_counter}
use Rattle.asked.proofs.header.ask_counter.Goals as goal

pub returns : goal.returns
unfolding ask_counter
returns c = rw (← c.counter_of.ensures) (asked_by _ read_counter _ _ _ (λ q p. search rules) c.ask.ensures)
