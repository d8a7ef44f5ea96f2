-- `arena_codes::free_in` meets its contract: the callees' equations joined. Assumes nothing.
use Rattle.arena_codes.specs.Codes.{free_in}
use Rattle.arena_codes.proofs.free_in.Goals as goal

pub returns-in-Ok : goal.returns-in-Ok
unfolding free_in
returns-in-Ok c = rw (← c.free.ensures, c.in-Ok.is)

pub returns-in-Err : goal.returns-in-Err
unfolding free_in
returns-in-Err c = rw (← c.free.ensures, c.in-Err.is, c.number.ensures)
