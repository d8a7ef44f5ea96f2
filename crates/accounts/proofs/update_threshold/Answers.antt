-- `accounts::update_threshold` meets its contract: the callees' equations joined. Assumes nothing.
use Rattle.accounts.specs.Accounts.{update_threshold}
use Rattle.accounts.proofs.update_threshold.Goals as goal

pub returns : goal.returns
unfolding update_threshold
returns c = rw (← c.memory_of-total.ensures.0, ← c.get.ensures, ← c.max-estimate.ensures, ← c.get-pause.ensures, ← c.cycle_threshold.ensures, ← c.put.ensures) c.put64.ensures
