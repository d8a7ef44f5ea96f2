-- `heapscript::run_all` meets its contract: lengths stay, and what is gathered lies within the line. Assumes nothing.
use mathlib.Core.Path.{◌≡◌}
use Prim.Native.Nat.{◌≤◌}
use lib.ListN.{length}
use Rattle.heapscript.proofs.run_all.Given as goal

abbrev pub invariant-loop : goal.invariant-loop
invariant-loop g l = (l.s.count ≤ length l.initial.line) × (length l.w ≡ length l.initial.w) × (length l.b ≡ length l.initial.b) × (length l.made ≡ length l.initial.made) × (length l.line ≡ length l.initial.line)
