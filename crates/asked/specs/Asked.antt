-- A question, or no question. Assumes nothing.
use Rattle.std.specs.Prelude.{◌≡◌, Some, None, Option, Result}
use Rattle.base.specs.Heap.{Heap}
use Rattle.base.specs.declared.Refusal.{Refusal}
use Rattle.reads.specs.declared.Read.{Read}
use Rattle.codes.specs.Numbers.{no_question}

-- A question is read; no question is refused.
abbrev pub asked : {Q : Type 0} → (Q → Heap → Result Read Refusal) → Option Q → Heap → Result Read Refusal
asked read (Some q) = read q
asked read None = no_question

-- the same, of a reader that is known by its results
abbrev pub Asked : {Q : Type 0} → (Q → Result Read Refusal → Type 0) → Option Q → Heap → Result Read Refusal → Type 0
Asked post (Some q) h r = post q r
Asked post None h r = r ≡ no_question h

pub asked_by : {Q : Type 0} (post : Q → Result Read Refusal → Type 0) (read : Q → Heap → Result Read Refusal) (o : Option Q) (h : Heap) (r : Result Read Refusal) → ((q : Q) → post q r → r ≡ read q h) → Asked post o h r → r ≡ asked read o h
asked_by post read (Some q) h r f p = f q p
asked_by post read None h r f p = p
