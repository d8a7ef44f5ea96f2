-- The law of a command whose call serves. Assumes nothing.
use Rattle.std.specs.Prelude.{◌≡◌, List, ℕ, Result}
use Rattle.base.specs.Heap.{Heap}
use Rattle.base.specs.declared.Refusal.{Refusal}
use Rattle.script_print.specs.declared.Outcome.{Outcome}
use Rattle.script_answers.specs.Answers.{script, of_served}
use Rattle.script_calls.specs.Commands.{serve}

pub serves : (call : Heap → Result Unit Refusal × Heap) (h : Heap) (m : List ℕ) (a : Result Unit Refusal) (g : Heap) (o : Result Outcome Refusal)
    → (a, g) ≡ call h → o ≡ of_served a → (o, script g m) ≡ serve call (script h m)
unfolding serve
serves call h m a g o p q = rw (q, ← p)
