-- `make_strings::find_string` meets its contract: what is left of the loop gives the whole. Assumes nothing.
use Rattle.std.specs.Prelude.{None}
use mathlib.Core.Path.{◌≡◌}
use Prim.Native.Nat.{◌-◌}
use Rattle.layout.specs.Layout.{lay_of}
use Rattle.base.specs.Heap.{heap}
use Rattle.making.specs.Turns.{turns}
use Rattle.make_strings.specs.Making.{find_string, find_turn}
use Rattle.make_strings.proofs.find_string.Given as goal

abbrev pub invariant-loop-i : goal.invariant-loop-i
invariant-loop-i l = turns (find_turn (lay_of l.l.sizes) l.s (heap l.w l.b)) None (l.end - l.i) l.i ≡ find_string (lay_of l.l.sizes) l.s (heap l.w l.b)
