-- `arena_codes::tell` meets its contract: the callees' equations joined. Assumes nothing.
use Rattle.arena_codes.proofs.tell.Goals as goal

pub returns : goal.returns
returns c = rw (← c.put.ensures) c.put-2.ensures
