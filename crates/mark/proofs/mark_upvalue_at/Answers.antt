-- `mark::mark_upvalue_at` meets its contract: the callees' equations joined. Assumes nothing.
use Rattle.mark.specs.Marking.{mark_upvalue_at}
use Rattle.mark.proofs.mark_upvalue_at.Goals as goal

pub returns : goal.returns
unfolding mark_upvalue_at
returns c = rw (← c.read_upval-r.ensures) c.mark_upvalue.ensures
