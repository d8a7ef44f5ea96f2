-- `table_walk::table_cost` meets its contract: the callees' equations joined. Assumes nothing.
use native.Mathlib.Omega.{arith}
use Rattle.table_walk.proofs.table_cost.Goals as goal

pub returns : goal.returns
returns c = (rw (← c.array_size.ensures.0, ← c.node_count.ensures.0), omega (arith, c.array_size.ensures.1, c.node_count.ensures.1))
