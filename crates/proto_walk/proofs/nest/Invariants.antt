-- `proto_walk::nest` meets its contract: the words are as long as the layout says, and eight numbers are put. Assumes nothing.
use Prim.Native.Nat.{◌-◌}
use Rattle.proto_walk.proofs.nest.Given as goal

abbrev pub invariant-loop-k : goal.invariant-loop-k
invariant-loop-k l = Unit {0}
