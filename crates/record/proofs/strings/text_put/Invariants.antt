-- `record::strings::text_put` meets its contract: what is left of the loop gives the whole. Assumes nothing.
use lib.ListN.{length}
use mathlib.Core.Path.{◌≡◌}
use Rattle.base.specs.Loop.{run}
use Rattle.record.specs.Strings.{text_one}
use Rattle.record.proofs.strings.text_put.Given as goal

abbrev pub invariant-loop-k : goal.invariant-loop-k
invariant-loop-k l = (run (text_one l.i l.s) l.k (length l.s) l.b ≡ run (text_one l.i l.s) 0 (length l.s) l.initial.b) × (length l.b ≡ length l.initial.b)
