-- `chains::names_free` meets its contract: each way by its test. Assumes nothing.
use native.Mathlib.Omega.{arith}
use Rattle.chains.proofs.Laws.{free_at, free_none, free_past}
use Rattle.chains.proofs.names_free.Goals as goal

pub returns-then-x-eq0 : goal.returns-then-x-eq0
returns-then-x-eq0 c = free_none _ _ _ (omega arith)

pub returns-then-used_of-i : goal.returns-then-used_of-i
returns-then-used_of-i c = free_past _ _ _ (omega arith) (omega arith)

pub returns : goal.returns
returns c = rw c.colour_of.ensures (free_at _ _ _ _ (omega arith) (omega arith) (omega arith))
