-- `steps::is_due` meets its contract: the callees' equations joined. Assumes nothing.
use Rattle.steps.specs.Steps.{is_due}
use Rattle.steps.proofs.is_due.Goals as goal

pub returns-else-not-is_out : goal.returns-else-not-is_out
unfolding is_due
returns-else-not-is_out c = rw (← c.is_out.ensures, c.if-not-is_out.false)

pub returns-then-not-is_out : goal.returns-then-not-is_out
unfolding is_due
returns-then-not-is_out c = rw (← c.is_out.ensures, c.if-not-is_out.true, ← c.get64.ensures, ← c.get.ensures)
