-- Document 01, 'Steps and pacing': what the header keeps of pacing, and of a finalizer that is out. Assumes nothing.
use Rattle.std.specs.Prelude.{List, ℕ, ◌+◌, ◌-◌, max, Some, None, Ok, Err, Result}
use Rattle.base.specs.Ways.{if_lt, if_le, if_eq}
use Rattle.base.specs.Words.{at, put, get64, put64, bounded}
use Rattle.base.specs.declared.Refusal.TheVariants.{OverLimit}
use Rattle.base.specs.declared.Refusal.{Refusal}
use Rattle.std.specs.declared.ops.ControlFlow.TheVariants.{Continue, Break}
use Rattle.std.specs.declared.ops.ControlFlow.{ControlFlow}
use Rattle.value.specs.declared.UdRef.{UdRef}
use Rattle.value.specs.Handles.{put_ud_or}
use Rattle.layout.specs.Places.{LIMIT, PAUSE, PHASE, TOTAL, ESTIMATE, THRESHOLD, DEBT, INTERRUPTED, OUT, REMAINING, STRINGS, TABLES, FUNCTIONS, UPVALUES, USERDATA, THREADS}
use Rattle.pacing.specs.Pacing.{grown_debt, cycle_threshold, step_threshold, debt_after, memory}
use Rattle.accounts.specs.declared.Answer.{Answer}
use Rattle.accounts.specs.declared.Answer.TheVariants.{Stepped, Unfinished, Ended, Passed, Handed, Busy, Failed}

-- What the occupied slots take in all, by the stored counts.
abbrev pub count_at : ℕ → List ℕ → ℕ
count_at p w = bounded (at w (p + 2)) 4096

abbrev pub memory_of : List ℕ → ℕ
memory_of w = memory (record {
  strings = count_at STRINGS w;
  tables = count_at TABLES w;
  functions = count_at FUNCTIONS w;
  upvalues = count_at UPVALUES w;
  userdata = count_at USERDATA w;
  threads = count_at THREADS w;
})

-- At the end of a cycle the total is counted anew; the threshold goes by the larger of it and the estimate.
unfoldable pub update_threshold : List ℕ → List ℕ
update_threshold w =
    let total = memory_of w in
    let t = cycle_threshold (max (at w ESTIMATE) total) (at w PAUSE) in
    put64 THRESHOLD t (put TOTAL total w)

-- A budgeted step that ends before the cycle does.
unfoldable pub step_ends : List ℕ → List ℕ
step_ends w =
    let debt = get64 w DEBT in
    let w₁ = put64 DEBT (debt_after debt) w in
    put64 THRESHOLD (step_threshold debt (at w TOTAL)) w₁

-- While a finalizer is out the words keep what was interrupted (1 single, 2 budgeted, 3 check, 4 and 5 full in its first and
-- second half), the userdata, and the remaining budget before its 100.
unfoldable pub handed : ℕ → UdRef → ℕ → List ℕ → List ℕ
handed kind r left w =
    let w₁ = put INTERRUPTED kind w in
    let w₂ = put_ud_or OUT (Some r) w₁ in
    put64 REMAINING left w₂

unfoldable pub taken_back : List ℕ → List ℕ
taken_back w =
    let w₁ = put INTERRUPTED 0 w in
    let w₂ = put_ud_or OUT None w₁ in
    put64 REMAINING 0 w₂

-- A budgeted step subtracts each cost and stops at 0 or below, or at Pause.
unfoldable pub after_cost : ℕ → ℕ → List ℕ → ControlFlow (Result Answer Refusal) ℕ × List ℕ
after_cost left c w =
    if_eq (at w PHASE) 0 (Break (Ok Ended), update_threshold w)
    (if_le left c (Break (Ok Unfinished), step_ends w)
    (Continue (left - c), w))

-- The debt grows by total minus threshold.
abbrev pub grown : List ℕ → List ℕ
grown w = put64 DEBT (grown_debt (get64 w DEBT) (at w TOTAL) (get64 w THRESHOLD)) w

-- A check that ends with the total above the limit is 7.
unfoldable pub within_limit : List ℕ → Result Answer Refusal
within_limit w = if_lt (get64 w LIMIT) (at w TOTAL) (Err OverLimit) (Ok Passed)

unfoldable pub limited : List ℕ → Result Answer Refusal → Result Answer Refusal
limited w (Ok (Handed r v)) = Ok (Handed r v)
limited w (Ok (Stepped c)) = within_limit w
limited w (Ok Unfinished) = within_limit w
limited w (Ok Ended) = within_limit w
limited w (Ok Passed) = within_limit w
limited w (Ok Busy) = within_limit w
limited w (Ok Failed) = within_limit w
limited w (Err n) = within_limit w
