-- `mark::mark_value_at` meets its contract: the callees' equations joined. Assumes nothing.
use Rattle.mark.specs.Marking.{mark_value_at}
use Rattle.mark.proofs.mark_value_at.Goals as goal

pub returns : goal.returns
unfolding mark_value_at
returns c = rw (← c.get-tag.ensures, ← c.get-low.ensures, ← c.get-high.ensures) c.mark_tagged.ensures
