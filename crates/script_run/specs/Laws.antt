-- Laws of a line that is run.
--     collect_obeys, plain_obeys     a command's equation as the whole line's
--     line_runs, printed_within      what a command printed, and then its outcome's text; within the lent bytes
-- Assumes nothing.
use Rattle.std.specs.Prelude.{◌≡◌, List, ℕ, ◌≤◌, length, Result}
use Rattle.std.proofs.Common.{ap, arith}
use Rattle.base.specs.Heap.{Heap}
use Rattle.base.specs.declared.Refusal.{Refusal}
use Rattle.script_bytes.specs.Bytes.{said}
use Rattle.script_bytes.specs.Laws.{said_append, said_within}
use Rattle.script_line.specs.declared.Command.{Command}
use Rattle.script_line.specs.declared.Command.TheVariants as command
use Rattle.script_line.specs.Lines.{parse}
use Rattle.script_print.specs.declared.Outcome.{Outcome}
use Rattle.script_print.specs.Texts.{final_lines, outcome_text}
use Rattle.script_answers.specs.Answers.{Script, script}
use Rattle.script_collect.specs.Collects.{handing, collecting}
use Rattle.script_run.specs.Runs.{collect_command, plain, obey, run_line, printed, obeying}

pub collect_obeys : (line : List ℕ) (h : Heap) (m : List ℕ) (p : ℕ × List ℕ) {o : Result Outcome Refusal} {g : Heap} {q : ℕ × List ℕ}
    → ((o, g), q) ≡ collecting h p → ((o, script g m), q) ≡ obeying line command.Collect (script h m) p
unfolding obeying obey collect_command collecting handing
collect_obeys line h m p e = ap (λ (x : (Result Outcome Refusal × Heap) × (ℕ × List ℕ)). ((x.0.0, script x.0.1 m), x.1)) e

-- a command that hands nothing out
pub plain_obeys : (line : List ℕ) (c : Command) (s : Script) (p : ℕ × List ℕ) (x : Result Outcome Refusal × Script) {o : Result Outcome Refusal} {t : Script}
    → obey line c s ≡ plain x → (o, t) ≡ x → ((o, t), p) ≡ obeying line c s p
unfolding obeying said final_lines
plain_obeys line c s p x e f = rw (e, f)

pub line_runs : (line out : List ℕ) (n : ℕ) (s : Script) {o : Result Outcome Refusal} {t : Script} {p q : ℕ × List ℕ}
    → ((o, t), p) ≡ obeying line (parse line) s (0, out) → q ≡ said (outcome_text n o) p → (q, t) ≡ printed out (run_line line n s)
unfolding run_line obeying
line_runs line out n s e f =
    rw (said_append, f, ap (λ (x : (Result Outcome Refusal × Script) × (ℕ × List ℕ)). x.0.0) e, ap (λ (x : (Result Outcome Refusal × Script) × (ℕ × List ℕ)). x.0.1) e, ap (λ (x : (Result Outcome Refusal × Script) × (ℕ × List ℕ)). x.1) e)

pub printed_within : (line out : List ℕ) (n : ℕ) (s : Script) {q : ℕ × List ℕ} {t : Script} → (q, t) ≡ printed out (run_line line n s) → q.0 ≤ length out
printed_within line out n s e = rw (ap (λ (x : (ℕ × List ℕ) × Script). x.0) e) (said_within (run_line line n s).0 (0, out) (omega arith))
