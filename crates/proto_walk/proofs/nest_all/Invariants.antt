-- `proto_walk::nest_all` meets its contract: the measure is the prototypes that are left. Assumes nothing.
use Prim.Native.Nat.{◌-◌, ◌≤◌}
use Rattle.proto_walk.proofs.nest_all.Given as goal

abbrev pub invariant-loop-n : goal.invariant-loop-n
invariant-loop-n l = 1 ≤ l.n
