-- `sound::are_upvalues` meets its contract: the turns from here on answer what all do. Assumes nothing.
use mathlib.Core.Bool.{true}
use mathlib.Core.Path.{◌≡◌}
use Prim.Native.Nat.{◌-◌}
use Rattle.layout.specs.Layout.{lay_of}
use Rattle.making.specs.Turns.{each, each_turn, turns}
use Rattle.sound.specs.Sound.{upvalue_at}
use Rattle.sound.proofs.are_upvalues.Given as goal

abbrev pub invariant-loop-k : goal.invariant-loop-k
invariant-loop-k l = turns (each_turn (upvalue_at (lay_of l.l.sizes) l.s l.w)) true (l.n - l.k) l.k ≡ each (upvalue_at (lay_of l.l.sizes) l.s l.w) l.n
