-- `counters::counters_of` meets its contract: the callees' equations joined. Assumes nothing.
use Rattle.counters.proofs.counters_of.Goals as goal

pub returns : goal.returns
returns c = rw (← c.get.ensures, ← c.get-2.ensures, ← c.get64.ensures)
