-- `mark::mark_value` meets its contract: the callees' equations joined. Assumes nothing.
use Rattle.mark.proofs.Laws.{value_told}
use Rattle.mark.proofs.mark_value.Goals as goal

pub returns : goal.returns
returns c = rw (value_told c.args.v c.tag_of.ensures c.low_of.ensures c.high_of.ensures) at c.mark_tagged.ensures
