-- `make_codes::are_tags` meets its contract: the turns from here on answer what all do. Assumes nothing.
use mathlib.Core.Bool.{true}
use mathlib.Core.Path.{◌≡◌}
use Prim.Native.Nat.{◌-◌, ◌/◌}
use lib.ListN.{length}
use Rattle.making.specs.Turns.{each, each_turn, turns}
use Rattle.make_codes.specs.Codes.{is_tag}
use Rattle.make_codes.proofs.are_tags.Given as goal

abbrev pub invariant-loop-k : goal.invariant-loop-k
invariant-loop-k l = turns (each_turn (is_tag l.s)) true (l.n - l.k) l.k ≡ each (is_tag l.s) (length l.s / 3)
