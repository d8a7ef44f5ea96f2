-- `accounts::hand` meets its contract: the callees' equations joined. Assumes nothing.
use Rattle.accounts.specs.Accounts.{handed}
use Rattle.accounts.proofs.hand.Goals as goal

pub returns : goal.returns
unfolding handed
returns c = rw (← c.put.ensures, ← c.write_ud_or.ensures) c.put64.ensures
