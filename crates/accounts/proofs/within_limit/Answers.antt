-- `accounts::within_limit` meets its contract: each way by its test. Assumes nothing.
use mathlib.Core.Path.{refl}
use Rattle.base.specs.Ways.{lt_yes, lt_no}
use Rattle.accounts.specs.Accounts.{within_limit}
use Rattle.accounts.proofs.within_limit.Goals as goal

pub returns-then-get64-get : goal.returns-then-get64-get
unfolding within_limit
returns-then-get64-get c = lt_yes _ _ _ _ _ (rw (c.get64.ensures, c.get.ensures) at c.if-get64-get.true) refl

pub returns-else-get64-get : goal.returns-else-get64-get
unfolding within_limit
returns-else-get64-get c = lt_no _ _ _ _ _ (rw (c.get64.ensures, c.get.ensures) at c.if-get64-get.false) refl
