-- `counters::tracked` meets its contract: the callees' equations joined. Assumes nothing.
use Rattle.counters.proofs.tracked.Goals as goal

pub returns : goal.returns
returns c = rw (← c.saturating_add-total.ensures, ← c.max.ensures)
