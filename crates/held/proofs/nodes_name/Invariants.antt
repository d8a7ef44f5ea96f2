-- `held::nodes_name` meets its contract: the turns from here on answer what all do. Assumes nothing.
use mathlib.Core.Path.{◌≡◌}
use mathlib.Core.Bool.{true}
use Prim.Native.Nat.{◌-◌}
use Rattle.layout.specs.Layout.{lay_of}
use Rattle.making.specs.Turns.{each, each_turn, turns}
use Rattle.record.specs.Tables.{node_count}
use Rattle.held.specs.Held.{node_names}
use Rattle.held.proofs.nodes_name.Given as goal

abbrev pub invariant-loop-j : goal.invariant-loop-j
invariant-loop-j l = turns (each_turn (node_names (lay_of l.l.sizes) l.w l.p)) true (l.n - l.j) l.j ≡ each (node_names (lay_of l.l.sizes) l.w l.p) (node_count l.p l.w)
