-- Document 01, 'Steps and pacing': the budgeted step, full collection, hand-out and what is kept of an interrupted call.
-- Assumes nothing.
use Rattle.std.specs.Prelude.{List, ℕ, zero, suc, ◌+◌, Ok, Result, Some, None, Option}
use Rattle.base.specs.Ways.{if_le}
use Rattle.base.specs.Words.{at, put}
use Rattle.base.specs.Heap.{Heap, heap}
use Rattle.base.specs.declared.Refusal.{Refusal}
use Rattle.std.specs.declared.ops.ControlFlow.TheVariants.{Continue, Break}
use Rattle.std.specs.declared.ops.ControlFlow.{ControlFlow}
use Rattle.value.specs.declared.Value.{Value}
use Rattle.value.specs.declared.UdRef.{UdRef}
use Rattle.layout.specs.declared.Lay.{Lay}
use Rattle.layout.specs.Places.{STEPMUL, PHASE}
use Rattle.mark.specs.Words.{ops}
use Rattle.propagate.specs.Roots.{clear_lists}
use Rattle.pacing.specs.Pacing.{automatic_budget}
use Rattle.accounts.specs.Accounts.{update_threshold, handed, after_cost, grown}
use Rattle.sweep_step.specs.Cursor.{start, put_cursor}
use Rattle.step.specs.declared.Single.{Single}
use Rattle.step.specs.declared.Single.TheVariants.{Cost, Out}
use Rattle.step.specs.Step.{start_cycle, single_step}
use Rattle.accounts.specs.declared.Answer.{Answer}
use Rattle.accounts.specs.declared.Answer.TheVariants.{Unfinished, Ended, Handed}

-- No cycle has more steps: the roots, one for each gray item that there can be, the atomic step, one for each slot that is
-- swept and each arena, one for each queued userdata, the end.
abbrev pub steps_most : Lay → ℕ
steps_most l =
    l.gray.room + l.tables.slots + l.functions.slots + l.threads.slots
    + (l.strings.slots + l.tables.slots + l.functions.slots)
    + (l.upvalues.slots + l.userdata.slots + l.threads.slots)
    + l.queue.room
    + 16

abbrev pub turned : ℕ → ℕ → Single × Heap → ControlFlow (Result Answer Refusal) ℕ × Heap
turned kind left (Cost c, h) = ((after_cost left c h.words).0, heap (after_cost left c h.words).1 h.bytes)
turned kind left (Out r v, h) = (Break (Ok (Handed r v)), heap (handed kind r left h.words) h.bytes)

unfoldable pub turn : Lay → ℕ → ℕ → Heap → ControlFlow (Result Answer Refusal) ℕ × Heap
turn l kind left h = turned kind left (single_step l h)

abbrev pub on_turn : ControlFlow (Result Answer Refusal) ℕ × Heap → (ℕ → Heap → Result Answer Refusal × Heap) → Result Answer Refusal × Heap
on_turn (Continue k, h) on = on k h
on_turn (Break a, h) on = (a, h)

unfoldable pub budgeted_for : ℕ → Lay → ℕ → ℕ → Heap → Result Answer Refusal × Heap
budgeted_for zero l kind left h = (Ok Unfinished, h)
budgeted_for (suc n) l kind left h = on_turn (turn l kind left h) (λ k g. budgeted_for n l kind k g)

unfoldable pub budgeted : Lay → ℕ → ℕ → Heap → Result Answer Refusal × Heap
budgeted l kind budget h = budgeted_for (steps_most l) l kind budget h

-- Steps until the phase is at most `end`.
abbrev pub on_step : ℕ → Single × Heap → (Heap → Option (UdRef × Value) × Heap) → Option (UdRef × Value) × Heap
on_step kind (Cost c, h) on = on h
on_step kind (Out r v, h) on = (Some (r, v), heap (handed kind r 0 h.words) h.bytes)

unfoldable pub driven_for : ℕ → Lay → ℕ → ℕ → Heap → Option (UdRef × Value) × Heap
driven_for zero l kind end h = (None, h)
driven_for (suc n) l kind end h =
    if_le (at h.words PHASE) end (None, h)
    (on_step kind (single_step l h) (λ g. driven_for n l kind end g))

unfoldable pub driven : Lay → ℕ → ℕ → Heap → Option (UdRef × Value) × Heap
driven l kind end h = driven_for (steps_most l) l kind end h

-- Full collection: what was under way is swept and finalized to its end, then a cycle is run from its beginning.
abbrev pub on_half : Option (UdRef × Value) × Heap → (Heap → Result Answer Refusal × Heap) → Result Answer Refusal × Heap
on_half (None, h) on = on h
on_half (Some (r, v), h) on = (Ok (Handed r v), h)

abbrev pub over : (List ℕ → List ℕ) → Result Answer Refusal → Heap → Result Answer Refusal × Heap
over f a h = (a, heap (f h.words) h.bytes)

unfoldable pub full_second : Lay → Heap → Result Answer Refusal × Heap
full_second l h = on_half (driven l 5 0 h) (over update_threshold (Ok Ended))

unfoldable pub full_first : Lay → Heap → Result Answer Refusal × Heap
full_first l h = on_half (driven l 4 1 h) (λ g. full_second l (heap (start_cycle l g.words) g.bytes))

-- Marking that was under way is given up: a sweep without a flip comes first.
unfoldable pub gave_up : Lay → List ℕ → List ℕ
gave_up l w = if_le (at w PHASE) 1 (put_cursor start (put PHASE 2 (clear_lists (ops l) w))) w

unfoldable pub automatic : Lay → ℕ → Heap → Result Answer Refusal × Heap
automatic l kind h =
    let w = grown h.words in
    budgeted l kind (automatic_budget (at w STEPMUL)) (heap w h.bytes)
