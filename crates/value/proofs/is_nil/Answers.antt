-- `value::is_nil` meets its contract: the callees' equations joined. Assumes nothing.
use Rattle.value.proofs.is_nil.Goals as goal

pub returns : goal.returns
returns c = rw (← c.tag_of.ensures)
