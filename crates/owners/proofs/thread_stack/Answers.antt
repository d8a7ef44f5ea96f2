-- `owners::thread_stack` meets its contract: the count as it is read, the rest within the record. Assumes nothing.
use native.Mathlib.Omega.{arith}
use Rattle.owners.specs.Owners.{thread_stack}
use Rattle.owners.proofs.thread_stack.Goals as goal

pub returns : goal.returns
unfolding thread_stack
returns c = (rw (c.thread_size.ensures.0, c.thread_top.ensures.0), record { word = omega (arith, c.requires); room = omega (arith, c.thread_size.ensures.1); fits = omega (arith, c.thread_size.ensures.1, c.requires); count = omega (arith, c.thread_size.ensures.0, c.thread_top.ensures.0) })
