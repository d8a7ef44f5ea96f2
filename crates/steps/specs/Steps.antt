-- The calls that step. While a finalizer is out, single, budgeted and full steps answer Busy and change nothing, but an
-- automatic step adds to the debt first and a check only tests the limit. Assumes nothing.
use Rattle.std.specs.Prelude.{Bool, false, cond, List, ℕ, ltb, leb, ℤ, Ok, Err, Result}
use Rattle.base.specs.Ways.{if_eq}
use Rattle.base.specs.Words.{at, get64, put64}
use Rattle.base.specs.Heap.{Heap, heap}
use Rattle.base.specs.declared.Refusal.TheVariants.{WrongState, Damaged}
use Rattle.base.specs.declared.Refusal.{Refusal}
use Rattle.layout.specs.declared.Lay.{Lay}
use Rattle.layout.specs.Places.{PAUSE, STEPMUL, DAMAGE, TOTAL, THRESHOLD, INTERRUPTED, REMAINING}
use Rattle.test1.specs.Calls.{call_marked}
use Rattle.pacing.specs.Pacing.{budget_of, automatic_budget, finish_threshold}
use Rattle.step.specs.declared.Single.{Single}
use Rattle.step.specs.declared.Single.TheVariants.{Cost, Out}
use Rattle.step.specs.Step.{lower_estimate, single_step}
use Rattle.accounts.specs.declared.Answer.{Answer}
use Rattle.accounts.specs.declared.Answer.TheVariants.{Stepped, Passed, Handed, Busy, Failed}
use Rattle.accounts.specs.Accounts.{handed, taken_back, after_cost, grown, limited}
use Rattle.pace.specs.Pace.{on_turn, budgeted, full_first, full_second, gave_up, automatic}

abbrev pub is_out : List ℕ → Bool
is_out w = ltb 0 (at w INTERRUPTED)

-- The damage mark was set by the call: 8.
abbrev pub unmarked : List ℕ → Result Answer Refusal → Result Answer Refusal
unmarked w a = if_eq (at w DAMAGE) 0 a (Err Damaged)

abbrev pub stepped : Single × Heap → Result Answer Refusal × Heap
stepped (Cost c, h) = (Ok (Stepped c), h)
stepped (Out r v, h) = (Ok (Handed r v), heap (handed 1 r 0 h.words) h.bytes)

unfoldable pub single_in : Lay → Heap → Result Answer Refusal × Heap
single_in l h = cond (is_out h.words) (Ok Busy, h) (stepped (single_step l h))

unfoldable pub budget_in : ℕ → Lay → Heap → Result Answer Refusal × Heap
budget_in budget l h = cond (is_out h.words) (Ok Busy, h) (budgeted l 2 budget h)

unfoldable pub auto_in : Lay → Heap → Result Answer Refusal × Heap
auto_in l h =
    let w = grown h.words in
    budget_in (automatic_budget (at w STEPMUL)) l (heap w h.bytes)

-- A check makes a step if none is out and the total has come to the threshold.
unfoldable pub is_due : List ℕ → Bool
is_due w = cond (is_out w) false (leb (get64 w THRESHOLD) (at w TOTAL))

abbrev pub limited_in : Result Answer Refusal × Heap → Result Answer Refusal × Heap
limited_in x = (limited x.1.words x.0, x.1)

unfoldable pub check_in : Lay → Heap → Result Answer Refusal × Heap
check_in l h = cond (is_due h.words) (limited_in (automatic l 3 h)) (limited_in (Ok Passed, h))

unfoldable pub full_in : Lay → Heap → Result Answer Refusal × Heap
full_in l h = cond (is_out h.words) (Ok Busy, h) (full_first l (heap (gave_up l h.words) h.bytes))

-- Finish with success goes on with the remaining budget, less the finalizer's 100, or with the full collection.
unfoldable pub steps_on : Lay → ℕ → ℕ → Heap → Result Answer Refusal × Heap
steps_on l kind left h =
    let x = after_cost left 100 h.words in
    on_turn (x.0, heap x.1 h.bytes) (λ k g. budgeted l kind k g)

unfoldable pub resumed : Lay → ℕ → ℕ → Heap → Result Answer Refusal × Heap
resumed l kind left h =
    if_eq kind 1 (Ok (Stepped 100), h)
    (if_eq kind 2 (steps_on l 2 left h)
    (if_eq kind 3 (limited_in (steps_on l 3 left h))
    (if_eq kind 4 (full_first l h)
    (full_second l h))))

-- It sets the threshold to total * pause / 100 and lowers an estimate above 100 by 100.
unfoldable pub succeeded : List ℕ → List ℕ
succeeded w = lower_estimate (put64 THRESHOLD (finish_threshold (at w TOTAL) (at w PAUSE)) w)

-- Finish with none out is 5. With failure the phase stays Finalize and the call ends.
unfoldable pub finish_in : Bool → Lay → Heap → Result Answer Refusal × Heap
finish_in ok l h =
    let kind = at h.words INTERRUPTED in
    let left = get64 h.words REMAINING in
    let w = taken_back h.words in
    if_eq kind 0 (Err WrongState, h)
    (cond ok (resumed l kind left (heap (succeeded w) h.bytes)) (Ok Failed, heap w h.bytes))

-- the six calls
unfoldable pub gc_singlestep : Heap → Result Answer Refusal × Heap
gc_singlestep h = call_marked Err single_in h

unfoldable pub gc_step : ℤ → Heap → Result Answer Refusal × Heap
gc_step budget h = call_marked Err (budget_in (budget_of budget)) h

unfoldable pub gc_step_auto : Heap → Result Answer Refusal × Heap
gc_step_auto h = call_marked Err auto_in h

unfoldable pub gc_check : Heap → Result Answer Refusal × Heap
gc_check h = call_marked Err check_in h

unfoldable pub full_gc : Heap → Result Answer Refusal × Heap
full_gc h = call_marked Err full_in h

unfoldable pub finish : Bool → Heap → Result Answer Refusal × Heap
finish ok h = call_marked Err (finish_in ok) h
