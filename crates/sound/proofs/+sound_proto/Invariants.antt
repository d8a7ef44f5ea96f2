-- `sound::sound_proto` meets its contract: the number falls, the turns from here on answer what all do, and what was seen is sound. Assumes nothing.
use Rattle.std.proofs.Common.{◌-◌}
use Rattle.layout.specs.Layout.{lay_of}
use Rattle.sound.proofs.Laws.{Looking}
use Rattle.sound.proofs.+sound_proto.Given as goal

abbrev pub decreases-sound_proto : goal.decreases-sound_proto
decreases-sound_proto l = l.n

abbrev pub invariant-loop-j : goal.invariant-loop-j
invariant-loop-j l = Looking (lay_of l.l.sizes) l.w l.n l.m l.initial.seen l.seen l.j

abbrev pub decreases-loop-j : goal.decreases-loop-j
decreases-loop-j l = l.m - l.j
