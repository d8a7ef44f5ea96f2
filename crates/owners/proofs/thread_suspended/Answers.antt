-- `owners::thread_suspended` meets its contract: the count as it is read, the rest within the record. Assumes nothing.
use native.Mathlib.Omega.{arith}
use Rattle.owners.specs.Owners.{thread_suspended}
use Rattle.owners.proofs.thread_suspended.Goals as goal

pub returns : goal.returns
unfolding thread_suspended
returns c = (rw c.thread_suspended_count.ensures.0, record { word = omega (arith, c.requires); room = omega arith; fits = omega (arith, c.requires); count = c.thread_suspended_count.ensures.1 })
