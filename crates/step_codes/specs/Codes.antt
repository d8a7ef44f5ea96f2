-- What the exported functions answer: a code (0, or a refusal number), and six words lent for the rest: 0 Stepped with its
-- cost, 1 Unfinished, 2 Ended, 3 Passed, 4 Handed with the userdata's handle and the method's three words, 5 Busy, 6 Failed.
-- Fewer than six words are refused with 1. Assumes nothing.
use Rattle.std.specs.Prelude.{List, ℕ, ◌%◌, Ok, Err, Result}
use Rattle.base.specs.Words.{put}
use Rattle.base.specs.Heap.{Heap}
use Rattle.base.specs.declared.Refusal.{Refusal}
use Rattle.base.specs.Refusals.{number}
use Rattle.told.specs.Answers.{lent}
use Rattle.value.specs.declared.Value.{Value}
use Rattle.value.specs.declared.Value.TheVariants.{Nil}
use Rattle.value.specs.Values.{put_value}
use Rattle.accounts.specs.declared.Answer.{Answer}
use Rattle.accounts.specs.declared.Answer.TheVariants.{Stepped, Unfinished, Ended, Passed, Handed, Busy, Failed}

unfoldable pub six : ℕ → ℕ → ℕ → Value → List ℕ → List ℕ
six kind x y v out =
    let o₁ = put 0 kind out in
    let o₂ = put 1 x o₁ in
    let o₃ = put 2 y o₂ in
    put_value 3 v o₃

unfoldable pub told : Result Answer Refusal → List ℕ → ℕ × List ℕ
told (Ok (Stepped c)) out = (0, six 0 (c % 4294967296) 0 Nil out)
told (Ok Unfinished) out = (0, six 1 0 0 Nil out)
told (Ok Ended) out = (0, six 2 0 0 Nil out)
told (Ok Passed) out = (0, six 3 0 0 Nil out)
told (Ok (Handed r v)) out = (0, six 4 r.0 r.1 v out)
told (Ok Busy) out = (0, six 5 0 0 Nil out)
told (Ok Failed) out = (0, six 6 0 0 Nil out)
told (Err n) out = (number n, out)

-- Each call, with six words for its answer.
abbrev pub on_step : (Heap → Result Answer Refusal × Heap) → Heap → List ℕ → (ℕ × Heap) × List ℕ
on_step = lent 6 told
