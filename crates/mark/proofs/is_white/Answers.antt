-- `mark::is_white` meets its contract: the callees' equations joined. Assumes nothing.
use borrow.Author.Tests.{eq-eqb, ne_eqb}
use Rattle.mark.specs.Ops.{is_white}
use Rattle.mark.proofs.is_white.Goals as goal

pub returns-then-c-eq1 : goal.returns-then-c-eq1
unfolding is_white
returns-then-c-eq1 c = rw (eq-eqb _ _ c.if-c-eq1.true)

pub returns-else-c-eq1 : goal.returns-else-c-eq1
unfolding is_white
returns-else-c-eq1 c = rw (ne_eqb _ _ c.if-c-eq1.false)
