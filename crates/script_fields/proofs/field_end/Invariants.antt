-- `script_fields::field_end` meets its contract: what is left of the loop gives the whole. Assumes nothing.
use mathlib.Core.Path.{◌≡◌}
use Prim.Native.Nat.{◌≤◌, max}
use lib.ListN.{length}
use Rattle.script_fields.specs.Fields.{field_end}
use Rattle.script_fields.proofs.field_end.Given as goal

abbrev pub invariant-loop-i : goal.invariant-loop-i
invariant-loop-i l = (field_end l.line l.i ≡ field_end l.line l.at) × (l.i ≤ max l.at (length l.line))
