-- `mark::is_nil_at` meets its contract: the callees' equations joined. Assumes nothing.
use borrow.Author.Tests.{eq-eqb}
use Rattle.mark.proofs.Laws.{nil_zero, nil_past}
use Rattle.mark.proofs.is_nil_at.Goals as goal

pub returns-then-tag-eq0 : goal.returns-then-tag-eq0
returns-then-tag-eq0 c = rw (← c.get-tag.ensures, eq-eqb _ _ c.if-tag-eq0.true) (nil_zero _ _ _ c.if-tag-eq0.true)

pub returns-else-tag-eq0 : goal.returns-else-tag-eq0
returns-else-tag-eq0 c = rw (← c.get-tag.ensures) (nil_past _ _ _ c.if-tag-eq0.false)
