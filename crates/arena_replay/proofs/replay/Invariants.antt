-- `arena_replay::replay` meets its contract: what is left of the loop gives the whole. Assumes nothing.
use Prim.Native.Nat.{◌≤◌, ◌-◌}
use lib.ListN.{length}
use Rattle.arena_replay.proofs.replay.Given as goal

abbrev pub invariant-loop-at : goal.invariant-loop-at
invariant-loop-at g l = l.at ≤ length l.s

abbrev pub decreases-loop-at : goal.decreases-loop-at
decreases-loop-at g l = length l.s - l.at
