-- `counters::would_pass` meets its contract: one callee. Assumes nothing.
use Rattle.counters.proofs.would_pass.Goals as goal

pub returns : goal.returns
returns c = rw (← c.saturating_add.ensures)
