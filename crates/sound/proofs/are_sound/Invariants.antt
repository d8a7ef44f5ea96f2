-- `sound::are_sound` meets its contract: the turns from here on answer what all do. Assumes nothing.
use mathlib.Core.Bool.{true}
use mathlib.Core.Path.{◌≡◌}
use Prim.Native.Nat.{◌-◌}
use Rattle.layout.specs.Layout.{lay_of}
use Rattle.making.specs.Turns.{each, each_turn, turns}
use Rattle.sound.specs.Sound.{sound_at}
use Rattle.sound.proofs.are_sound.Given as goal

abbrev pub invariant-loop-k : goal.invariant-loop-k
invariant-loop-k l = turns (each_turn (sound_at (lay_of l.l.sizes) l.s l.p l.w)) true (l.n - l.k) l.k ≡ each (sound_at (lay_of l.l.sizes) l.s l.p l.w) l.n
