-- `stacks::raise` meets its contract: what is left of the loop gives the whole. Assumes nothing.
use Prim.Native.Nat.{◌-◌}
use Rattle.stacks.proofs.Filling.{Filling}
use Rattle.stacks.proofs.raise.Given as goal

abbrev pub invariant-loop-i : goal.invariant-loop-i
invariant-loop-i l = Filling l.initial.w l.s l.n l.w l.i
