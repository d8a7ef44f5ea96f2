-- `held::upvalues_name` meets its contract: the turns from here on answer what all do. Assumes nothing.
use mathlib.Core.Path.{◌≡◌}
use mathlib.Core.Bool.{true}
use Prim.Native.Nat.{◌-◌}
use Rattle.layout.specs.Layout.{lay_of}
use Rattle.making.specs.Turns.{each, each_turn, turns}
use Rattle.held.specs.Held.{upvalue_named}
use Rattle.held.proofs.upvalues_name.Given as goal

abbrev pub invariant-loop-k : goal.invariant-loop-k
invariant-loop-k l = turns (each_turn (upvalue_named (lay_of l.l.sizes) l.w l.q)) true (l.n - l.k) l.k ≡ each (upvalue_named (lay_of l.l.sizes) l.w l.q) l.n
