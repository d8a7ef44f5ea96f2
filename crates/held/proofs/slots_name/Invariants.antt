-- `held::slots_name` meets its contract: the turns from here on answer what all do. Assumes nothing.
use mathlib.Core.Path.{◌≡◌}
use mathlib.Core.Bool.{true}
use Prim.Native.Nat.{◌-◌}
use Rattle.layout.specs.Layout.{lay_of}
use Rattle.arena.specs.Slots.{used}
use Rattle.making.specs.Turns.{each, each_turn, turns}
use Rattle.reads.specs.Objects.{arena_of}
use Rattle.held.specs.Held.{slot_names}
use Rattle.held.proofs.slots_name.Given as goal

abbrev pub invariant-loop-i : goal.invariant-loop-i
invariant-loop-i l = turns (each_turn (slot_names (lay_of l.l.sizes) l.w l.k)) true (l.n - l.i) l.i ≡ each (slot_names (lay_of l.l.sizes) l.w l.k) (used (arena_of (lay_of l.l.sizes) l.k) l.w)
