-- `counters::track` meets its contract: the callees' equations joined. Assumes nothing.
use Rattle.counters.specs.Count.{track}
use Rattle.counters.proofs.track.Goals as goal

pub returns : goal.returns
unfolding track
returns c = rw (rw c.counters_of.ensures at c.after_alloc-c.ensures) at c.put_counters.ensures
