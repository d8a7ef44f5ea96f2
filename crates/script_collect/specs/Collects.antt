-- A script's command `collect` (document 01, `heapscript`): the answer, the heap after it and the bytes that it prints. Assumes
-- nothing.
use Rattle.std.specs.Prelude.{true, List, [], ◌∷◌, ℕ, zero, suc, ◌-◌, Ok, Err, Result}
use Rattle.base.specs.Heap.{Heap}
use Rattle.base.specs.declared.Refusal.{Refusal}
use Rattle.value.specs.declared.UdRef.{UdRef}
use Rattle.reads.specs.declared.Kind.{Kind}
use Rattle.reads.specs.declared.Kind.TheVariants as kind
use Rattle.reads.specs.declared.Read.{Read}
use Rattle.reads.specs.declared.Read.TheVariants as read
use Rattle.part_reads.specs.declared.Slots.TheVariants.{Count}
use Rattle.part_reads.specs.PartReads.{read_arena}
use Rattle.accounts.specs.declared.Answer.{Answer}
use Rattle.accounts.specs.declared.Answer.TheVariants.{Stepped, Unfinished, Ended, Passed, Handed, Busy, Failed}
use Rattle.steps.specs.Steps.{full_gc, finish}
use Rattle.script_bytes.specs.Bytes.{said}
use Rattle.script_print.specs.declared.Counts.{Counts}
use Rattle.script_print.specs.declared.Outcome.{Outcome}
use Rattle.script_print.specs.declared.Outcome.TheVariants as outcome
use Rattle.script_print.specs.Texts.{final_lines}

-- The occupied slots of an arena, as the public read gives them; 0 if it is refused.
unfoldable pub number_of : Result Read Refusal → ℕ
number_of (Ok (read.Number n)) = n
number_of (Ok (read.Value v)) = 0
number_of (Ok (read.Table t)) = 0
number_of (Ok (read.Str t)) = 0
number_of (Ok (read.Upvalue r)) = 0
number_of (Ok (read.Item x)) = 0
number_of (Ok (read.Userdata t)) = 0
number_of (Err n) = 0

unfoldable pub count_in : Kind → Heap → ℕ
count_in k h = number_of (read_arena k Count h)

-- Six counts in sweep order.
unfoldable pub counts_in : Heap → Counts
counts_in h = record {
  strings = count_in kind.Strings h;
  tables = count_in kind.Tables h;
  functions = count_in kind.Functions h;
  upvalues = count_in kind.Upvalues h;
  userdata = count_in kind.Userdata h;
  threads = count_in kind.Threads h;
}

-- What was freed: the counts before, less those after.
unfoldable pub lost : Counts → Counts → Counts
lost x y = record {
  strings = x.strings - y.strings;
  tables = x.tables - y.tables;
  functions = x.functions - y.functions;
  upvalues = x.upvalues - y.upvalues;
  userdata = x.userdata - y.userdata;
  threads = x.threads - y.threads;
}

-- A finalizer handed out, or the end.
abbrev pub on_handed : {A : Type 0} → (UdRef → A) → A → Result Answer Refusal → A
on_handed f a (Ok (Handed r v)) = f r
on_handed f a (Ok (Stepped c)) = a
on_handed f a (Ok Unfinished) = a
on_handed f a (Ok Ended) = a
on_handed f a (Ok Passed) = a
on_handed f a (Ok Busy) = a
on_handed f a (Ok Failed) = a
on_handed f a (Err n) = a

-- Each finalizer that is handed out succeeds, until none is: at most n of them. What was handed out, the last answer, the heap.
unfoldable pub finals : ℕ → Result Answer Refusal → Heap → List UdRef × (Result Answer Refusal × Heap)
finals zero a h = ([], (a, h))
finals (suc n) a h =
    on_handed
    (λ r. (r ∷ (finals n (finish true h).0 (finish true h).1).0, (finals n (finish true h).0 (finish true h).1).1))
    ([], (a, h)) a

-- A collection that was not refused prints what it freed.
unfoldable pub ended : Counts → Heap → Result Answer Refusal → Result Outcome Refusal
ended before h (Err n) = Err n
ended before h (Ok (Handed r v)) = Ok (outcome.Freed (lost before (counts_in h)))
ended before h (Ok (Stepped c)) = Ok (outcome.Freed (lost before (counts_in h)))
ended before h (Ok Unfinished) = Ok (outcome.Freed (lost before (counts_in h)))
ended before h (Ok Ended) = Ok (outcome.Freed (lost before (counts_in h)))
ended before h (Ok Passed) = Ok (outcome.Freed (lost before (counts_in h)))
ended before h (Ok Busy) = Ok (outcome.Freed (lost before (counts_in h)))
ended before h (Ok Failed) = Ok (outcome.Freed (lost before (counts_in h)))

-- The same with the finalizers handed out printed in lent bytes at p: the last answer, the heap, and the place past them.
unfoldable pub handing : ℕ → Result Answer Refusal → Heap → ℕ × List ℕ → (Result Answer Refusal × Heap) × (ℕ × List ℕ)
handing n a h p = ((finals n a h).1, said (final_lines (finals n a h).0) p)

-- `collect`: a full collection, with as many finalizers at most as there are userdata; how it ended.
unfoldable pub collecting : Heap → ℕ × List ℕ → (Result Outcome Refusal × Heap) × (ℕ × List ℕ)
collecting h p =
    let before = counts_in h in
    let x = handing before.userdata (full_gc h).0 (full_gc h).1 p in
    ((ended before x.0.1 x.0.0, x.0.1), x.1)
