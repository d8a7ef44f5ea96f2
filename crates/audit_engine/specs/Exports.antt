-- What the exported audit answers: a code (0, or a refusal number), and one word lent for the rest: 1 for yes, 0 for no. Less
-- than one word is refused with 1. Assumes nothing.
use Rattle.std.specs.Prelude.{Bool, true, false, List, ℕ, length, Ok, Err, Result}
use Rattle.base.specs.Ways.{if_lt}
use Rattle.base.specs.Words.{put}
use Rattle.base.specs.Heap.{Heap}
use Rattle.base.specs.declared.Refusal.{Refusal}
use Rattle.base.specs.Refusals.{number}
use Rattle.audit.specs.Audit.{audit}

unfoldable pub told : Result Bool Refusal → List ℕ → ℕ × List ℕ
told (Ok true) out = (0, put 0 1 out)
told (Ok false) out = (0, put 0 0 out)
told (Err n) out = (number n, out)

unfoldable pub on_audit : Heap → List ℕ → ℕ × List ℕ
on_audit h out = if_lt (length out) 1 (1, out) (told (audit h) out)
