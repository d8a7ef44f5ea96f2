-- `script_bytes::say` meets its contract: what is left of the loop gives the whole. Assumes nothing.
use mathlib.Core.Path.{◌≡◌}
use lib.ListN.{length}
use Rattle.script_bytes.specs.Bytes.{said}
use Rattle.script_bytes.specs.Laws.{said_from}
use Rattle.script_bytes.proofs.say.Given as goal

abbrev pub invariant-loop-i : goal.invariant-loop-i
invariant-loop-i l = (said_from l.i l.text (l.p, l.out) ≡ said l.text (l.n, l.initial.out)) × (length l.out ≡ length l.initial.out)
