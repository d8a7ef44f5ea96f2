-- `arena_codes::tell_swept` meets its contract: the callees' equations joined. Assumes nothing.
use Rattle.arena_codes.proofs.tell_swept.Goals as goal

pub returns : goal.returns
returns c = rw (← c.tell.ensures, ← c.from.ensures) c.put.ensures
