-- A line of a script (document 01, `heapscript`): what it does to the heap and the table of made objects, and the bytes that
-- it prints. Assumes nothing.
use Rattle.std.specs.Prelude.{List, [], ◌++◌, ℕ, drop, Result}
use Rattle.base.specs.Heap.{Heap}
use Rattle.base.specs.declared.Refusal.{Refusal}
use Rattle.value.specs.declared.UdRef.{UdRef}
use Rattle.accounts.specs.declared.Answer.{Answer}
use Rattle.steps.specs.Steps.{full_gc}
use Rattle.script_bytes.specs.Bytes.{said}
use Rattle.script_line.specs.declared.Command.{Command}
use Rattle.script_line.specs.declared.Command.TheVariants as command
use Rattle.script_line.specs.Lines.{parse}
use Rattle.script_print.specs.declared.Counts.{Counts}
use Rattle.script_print.specs.declared.Outcome.{Outcome}
use Rattle.script_print.specs.Texts.{final_lines, outcome_text}
use Rattle.script_answers.specs.Answers.{Script, script, refused4}
use Rattle.script_makes.specs.Makes.{str_command, tab_command, ud_command}
use Rattle.script_calls.specs.Commands.{push_command, pop_command, seti_command, setn_command, meta_command}
use Rattle.script_collect.specs.Collects.{counts_in, finals, ended}

-- What a command gives: the finalizers handed out, how it ended, and the script after.
pub record Obeyed : Type 0 where
  pub finals : List UdRef
  pub outcome : Result Outcome Refusal
  pub script : Script

-- `collect`: a full collection, with as many finalizers at most as there are userdata.
abbrev pub collected_to : Counts → List ℕ → List UdRef × (Result Answer Refusal × Heap) → Obeyed
collected_to before m x = record {
  finals = x.0;
  outcome = ended before x.1.1 x.1.0;
  script = script x.1.1 m;
}

unfoldable pub collect_command : Script → Obeyed
collect_command s =
    let before = counts_in s.heap in
    collected_to before s.made (finals before.userdata (full_gc s.heap).0 (full_gc s.heap).1)

-- No other command hands a finalizer out.
abbrev pub plain : Result Outcome Refusal × Script → Obeyed
plain x = record { finals = []; outcome = x.0; script = x.1 }

-- A bad command is 4. The text of `str` is the line from its place on.
unfoldable pub obey : List ℕ → Command → Script → Obeyed
obey line (command.Str i) s = plain (str_command (drop i line) s)
obey line (command.Tab a n) s = plain (tab_command a n s)
obey line command.Ud s = plain (ud_command s)
obey line (command.Push k) s = plain (push_command k s)
obey line command.Pop s = plain (pop_command s)
obey line (command.Seti t i k) s = plain (seti_command t i k s)
obey line (command.Setn t j k v) s = plain (setn_command t j k v s)
obey line (command.Meta k t) s = plain (meta_command k t s)
obey line command.Collect s = collect_command s
obey line command.Bad s = plain (refused4 s)

-- The bytes that line number n prints, and the script after it.
unfoldable pub run_line : List ℕ → ℕ → Script → List ℕ × Script
run_line line n s =
    let o = obey line (parse line) s in
    (final_lines o.finals ++ outcome_text n o.outcome, o.script)

-- The same with the bytes printed into lent bytes from their start on: how many, the bytes, and the script.
abbrev pub printed : List ℕ → List ℕ × Script → (ℕ × List ℕ) × Script
printed out x = (said x.0 (0, out), x.1)

-- The same of a command, with the finalizers handed out printed at p.
unfoldable pub obeying : List ℕ → Command → Script → ℕ × List ℕ → (Result Outcome Refusal × Script) × (ℕ × List ℕ)
obeying line c s p =
    let o = obey line c s in
    ((o.outcome, o.script), said (final_lines o.finals) p)
