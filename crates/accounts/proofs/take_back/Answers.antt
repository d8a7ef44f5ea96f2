-- `accounts::take_back` meets its contract: the callees' equations joined. Assumes nothing.
use Rattle.accounts.specs.Accounts.{taken_back}
use Rattle.accounts.proofs.take_back.Goals as goal

pub returns : goal.returns
unfolding taken_back
returns c = rw (← c.put.ensures, ← c.write_ud_or.ensures) c.put64.ensures
