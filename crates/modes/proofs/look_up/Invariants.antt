-- `modes::look_up` meets its contract: what is left of the loop gives the whole. Assumes nothing.
use mathlib.Core.Path.{◌≡◌}
use Prim.Native.Nat.{◌-◌}
use Rattle.modes.specs.Modes.{look_from, look_up}
use Rattle.modes.proofs.look_up.Given as goal

abbrev pub invariant-loop-j : goal.invariant-loop-j
invariant-loop-j l = look_from (l.n - l.j) l.j l.p l.s l.w ≡ look_up l.p l.s l.w
