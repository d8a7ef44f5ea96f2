-- `script_bytes::gather` meets its contract: what is left of the loop gives the whole. Assumes nothing.
use mathlib.Core.Path.{◌≡◌}
use Prim.Native.Nat.{◌≤◌, max}
use lib.ListN.{length}
use Rattle.script_bytes.specs.Bytes.{gather}
use Rattle.script_bytes.proofs.gather.Given as goal

abbrev pub invariant-loop-i : goal.invariant-loop-i
invariant-loop-i l = (gather l.part l.i (l.n, l.line) ≡ gather l.part l.from (l.count, l.initial.line)) × (length l.line ≡ length l.initial.line) × (l.i ≤ max l.from (length l.part))
