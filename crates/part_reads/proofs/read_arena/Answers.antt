use mathlib.Core.Path.{ap}
use Rattle.std.proofs.lemmas.Result.{err_from_is_err_and}
use Rattle.layout.specs.Plans.{sizes_given}
-- `part_reads::read_arena` meets its contract: from what its callees promise. Assumes nothing.
use Rattle.reads.specs.Objects.{arena_room}
use Rattle.test1.specs.Calls.{ask_fits, ask_refused}
use Rattle.part_reads.proofs.read_arena.Goals as goal

pub arena_in-requires : goal.arena_in-requires
arena_in-requires c = rw c.arena_of.ensures (arena_room _ c.args.k _ _ (rw c.in_ok-l.was at c.enter.ensures.1))

pub returns : goal.returns
returns c = ask_fits _ _ _ _ _ _ c.enter.ensures.0 (ap sizes_given c.in_ok-l.was) (rw (← c.arena_of.ensures) c.arena_in.ensures)

pub returns-in_err-l : goal.returns-in_err-l
returns-in_err-l c = let p = err_from_is_err_and c.from_residual.result c.from_residual.ensures.1 in rw (p.1, p.2) (ask_refused _ _ _ _ _ c.enter.ensures.0 (ap sizes_given c.in_err-l.was))
