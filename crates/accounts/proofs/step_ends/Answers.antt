-- `accounts::step_ends` meets its contract: the callees' equations joined. Assumes nothing.
use Rattle.accounts.specs.Accounts.{step_ends}
use Rattle.accounts.proofs.step_ends.Goals as goal

pub returns : goal.returns
unfolding step_ends
returns c = rw (← c.get64-debt.ensures, ← c.get-total.ensures, ← c.debt_after.ensures, ← c.step_threshold.ensures, ← c.put64.ensures) c.put64-2.ensures
