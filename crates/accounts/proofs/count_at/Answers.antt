-- `accounts::count_at` meets its contract: the callees' equations joined. Assumes nothing.
use Rattle.accounts.proofs.count_at.Goals as goal

pub returns : goal.returns
returns c = (rw (← c.get.ensures) c.within.ensures.0, c.within.ensures.1)
