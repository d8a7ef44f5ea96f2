-- `steps_cycle::fill` meets its contract: the measure is what is left of the words. Assumes nothing.
use Prim.Native.Nat.{◌-◌}
use Rattle.steps_cycle.proofs.fill.Given as goal

abbrev pub invariant-loop-i : goal.invariant-loop-i
invariant-loop-i l = Unit {0}
