-- `accounts::grow_debt` meets its contract: the callees' equations joined. Assumes nothing.
use Rattle.accounts.proofs.grow_debt.Goals as goal

pub returns : goal.returns
returns c = rw (← c.get64-debt.ensures, ← c.get-total.ensures, ← c.get64-threshold.ensures, ← c.grown_debt.ensures) c.put64.ensures
