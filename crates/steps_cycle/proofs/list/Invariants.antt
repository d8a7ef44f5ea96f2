-- `steps_cycle::list` meets its contract: the measure is what is left of the list. Assumes nothing.
use Prim.Native.Nat.{◌-◌}
use Rattle.steps_cycle.proofs.list.Given as goal

abbrev pub invariant-loop-i : goal.invariant-loop-i
invariant-loop-i g l = Unit {0}
