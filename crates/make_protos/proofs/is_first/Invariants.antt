-- `make_protos::is_first` meets its contract: the turns from here on answer what all do. Assumes nothing.
use mathlib.Core.Bool.{true}
use mathlib.Core.Path.{◌≡◌}
use Prim.Native.Nat.{◌-◌}
use Rattle.making.specs.Turns.{each, each_turn, turns}
use Rattle.make_protos.specs.Making.{differs}
use Rattle.make_protos.proofs.is_first.Given as goal

abbrev pub invariant-loop-j : goal.invariant-loop-j
invariant-loop-j l = turns (each_turn (differs l.s l.k)) true (l.k - l.j) l.j ≡ each (differs l.s l.k) l.k
