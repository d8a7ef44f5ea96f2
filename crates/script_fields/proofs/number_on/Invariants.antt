-- `script_fields::number_on` meets its contract: what is left of the loop gives the whole. Assumes nothing.
use mathlib.Core.Path.{◌≡◌}
use Prim.Native.Nat.{◌≤◌}
use Rattle.script_fields.specs.Fields.{number_on}
use Rattle.script_fields.proofs.number_on.Given as goal

abbrev pub invariant-loop-i : goal.invariant-loop-i
invariant-loop-i l = (number_on l.line l.v l.i ≡ number_on l.line 0 l.at) × (l.v ≤ 4294967295)
