-- `arena_codes::sweep_in` meets its contract: the callees' equations joined. Assumes nothing.
use Rattle.arena_codes.specs.Codes.{sweep_in}
use Rattle.arena_codes.proofs.sweep_in.Goals as goal

pub returns : goal.returns
unfolding sweep_in
returns c = rw (← c.wide.ensures.0, ← c.wide-2.ensures.0, ← c.sweep_partial-s.ensures.does, c.tell_swept.ensures)
