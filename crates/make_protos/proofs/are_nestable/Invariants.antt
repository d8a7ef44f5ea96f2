-- `make_protos::are_nestable` meets its contract: the turns from here on answer what all do. Assumes nothing.
use mathlib.Core.Bool.{true}
use mathlib.Core.Path.{◌≡◌}
use Prim.Native.Nat.{◌-◌}
use lib.ListN.{length}
use Rattle.layout.specs.Layout.{lay_of}
use Rattle.making.specs.Turns.{each, each_turn, turns}
use Rattle.make_protos.specs.Making.{can_nest}
use Rattle.make_protos.proofs.are_nestable.Given as goal

abbrev pub invariant-loop-k : goal.invariant-loop-k
invariant-loop-k l = turns (each_turn (can_nest (lay_of l.l.sizes) l.w l.s)) true (l.n - l.k) l.k ≡ each (can_nest (lay_of l.l.sizes) l.w l.s) (length l.s)
