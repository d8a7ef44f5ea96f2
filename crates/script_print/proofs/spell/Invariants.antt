-- `script_print::spell` meets its contract: what is left of the loop gives the whole. Assumes nothing.
use mathlib.Core.Path.{◌≡◌}
use lib.ListN.{length}
use Rattle.script_print.specs.Texts.{decimal}
use Rattle.script_print.specs.Digits.{digits_from}
use Rattle.script_print.proofs.spell.Given as goal

abbrev pub invariant-loop-i : goal.invariant-loop-i
invariant-loop-i l = (digits_from l.i l.rest l.digits ≡ decimal l.n) × (length l.digits ≡ 20)
