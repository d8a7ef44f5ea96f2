-- `counters::put_counters` meets its contract: the callees' equations joined. Assumes nothing.
use Rattle.counters.proofs.put_counters.Goals as goal

pub returns : goal.returns
returns c = rw (← c.put.ensures) c.put-2.ensures
