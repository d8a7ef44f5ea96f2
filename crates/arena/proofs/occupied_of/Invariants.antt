-- `arena::occupied_of` meets its contract: what is left of the loop gives the whole. Assumes nothing.
use Rattle.std.proofs.Common.{◌≡◌, ◌≤◌}
use Rattle.arena.specs.Slots.{tallied}
use Rattle.base.specs.Loop.{run}
use Rattle.arena.proofs.occupied_of.Given as goal

abbrev pub invariant-loop-i : goal.invariant-loop-i
invariant-loop-i l = (run (tallied l.a l.w) l.i l.end l.n ≡ run (tallied l.a l.w) 0 l.end 0) × (l.n ≤ l.i)
