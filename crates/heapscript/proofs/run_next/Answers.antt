-- A line that is passed is gathered no more, and what is read lies past where reading stood.
use Rattle.std.proofs.Common.{arith}
use Rattle.script_input.specs.Input.{passed}
use Rattle.heapscript.proofs.run_next.Goals as goal

pub returns-then-g : goal.returns-then-g
unfolding passed
returns-then-g g c = record { ok = rw c.pass.ensures (omega arith, c.read_on-g.ensures.1.forth c.requires.1); err = tt }
