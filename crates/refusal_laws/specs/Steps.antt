-- The calls that step, and what they are made of. Assumes nothing.
use Rattle.std.specs.Prelude.{Bool, List, ℕ, zero, suc, ℤ, Some, None, Ok, Err, Option, Result}
use Rattle.base.specs.Heap.{Heap, heap}
use Rattle.base.specs.declared.Refusal.{Refusal}
use Rattle.std.specs.declared.ops.ControlFlow.TheVariants.{Continue, Break}
use Rattle.std.specs.declared.ops.ControlFlow.{ControlFlow}
use Rattle.value.specs.declared.Value.{Value}
use Rattle.value.specs.declared.UdRef.{UdRef}
use Rattle.layout.specs.declared.Lay.{Lay}
use Rattle.pacing.specs.Pacing.{budget_of}
use Rattle.step.specs.declared.Single.{Single}
use Rattle.step.specs.declared.Single.TheVariants.{Cost, Out}
use Rattle.step.specs.Step.{start_cycle, single_step}
use Rattle.accounts.specs.declared.Answer.{Answer}
use Rattle.accounts.specs.declared.Answer.TheVariants.{Stepped, Unfinished, Ended, Passed, Handed, Busy, Failed}
use Rattle.accounts.specs.Accounts.{update_threshold, after_cost, within_limit, limited}
use Rattle.pace.specs.Pace.{steps_most, turned, turn, on_turn, budgeted_for, budgeted, driven, on_half, over, full_second, full_first, automatic}
use Rattle.steps.specs.Steps.{is_out, is_due, stepped, single_in, budget_in, auto_in, check_in, full_in, steps_on, resumed, finish_in, gc_singlestep, gc_step, gc_step_auto, gc_check, full_gc, finish}
use Rattle.state_laws.specs.Plains.{lt_both, le_both, eq_both, cond_both}
use Rattle.refusal_laws.specs.Known.{Answered}
use Rattle.refusal_laws.specs.Begins.{Answers, call_marked_known}

-- the answer of a turn that ends the work
abbrev pub Turned : ControlFlow (Result Answer Refusal) ℕ × List ℕ → Type 0
Turned (Continue k, w) = Unit {0}
Turned (Break a, w) = Answered a

pub after_cost_known : (left c : ℕ) (w : List ℕ) → Turned (after_cost left c w)
unfolding after_cost
after_cost_known left c w = eq_both Turned _ _ _ _ (λ e. tt) (λ e. le_both Turned _ _ _ _ (λ z. tt) (λ z. tt))

within_limit_known : (w : List ℕ) → Answered (within_limit w)
unfolding within_limit
within_limit_known w = lt_both Answered _ _ _ _ (λ e. tt) (λ e. tt)

-- It answers 7, `Passed`, or the finalizer that it was given; never a refusal that it was given.
pub limited_known : (w : List ℕ) (a : Result Answer Refusal) → Answered (limited w a)
unfolding limited
limited_known w (Ok (Handed r v)) = tt
limited_known w (Ok (Stepped c)) = within_limit_known w
limited_known w (Ok Unfinished) = within_limit_known w
limited_known w (Ok Ended) = within_limit_known w
limited_known w (Ok Passed) = within_limit_known w
limited_known w (Ok Busy) = within_limit_known w
limited_known w (Ok Failed) = within_limit_known w
limited_known w (Err k) = within_limit_known w

-- A turn goes on, or ends with a known answer.
on_turn_known : (x : ControlFlow (Result Answer Refusal) ℕ × List ℕ) (b : List ℕ) (on : ℕ → Heap → Result Answer Refusal × Heap) → Turned x → ((k : ℕ) (h : Heap) → Answers (on k h)) → Answers (on_turn (x.0, heap x.1 b) on)
on_turn_known (Continue k, w) b on q p = p k (heap w b)
on_turn_known (Break a, w) b on q p = q

turned_known : (kind left : ℕ) (x : Single × Heap) (on : ℕ → Heap → Result Answer Refusal × Heap) → ((k : ℕ) (h : Heap) → Answers (on k h)) → Answers (on_turn (turned kind left x) on)
turned_known kind left (Cost c, h) on p = on_turn_known (after_cost left c h.words) h.bytes on (after_cost_known left c h.words) p
turned_known kind left (Out r v, h) on p = tt

budgeted_for_known : (n : ℕ) (l : Lay) (kind left : ℕ) (h : Heap) → Answers (budgeted_for n l kind left h)
unfolding budgeted_for turn
budgeted_for_known zero l kind left h = tt
budgeted_for_known (suc n) l kind left h =
    turned_known kind left (single_step l h) (λ k g. budgeted_for n l kind k g) (λ k g. budgeted_for_known n l kind k g)

pub budgeted_known : (l : Lay) (kind budget : ℕ) (h : Heap) → Answers (budgeted l kind budget h)
unfolding budgeted
budgeted_known l kind budget h = budgeted_for_known (steps_most l) l kind budget h

on_half_known : (x : Option (UdRef × Value) × Heap) (on : Heap → Result Answer Refusal × Heap) → ((h : Heap) → Answers (on h)) → Answers (on_half x on)
on_half_known (None, h) on p = p h
on_half_known (Some (r, v), h) on p = tt

pub full_second_known : (l : Lay) (h : Heap) → Answers (full_second l h)
unfolding full_second
full_second_known l h = on_half_known (driven l 5 0 h) (over update_threshold (Ok Ended)) (λ g. tt)

pub full_first_known : (l : Lay) (h : Heap) → Answers (full_first l h)
unfolding full_first
full_first_known l h =
    on_half_known (driven l 4 1 h) (λ g. full_second l (heap (start_cycle l g.words) g.bytes))
    (λ g. full_second_known l (heap (start_cycle l g.words) g.bytes))

pub automatic_known : (l : Lay) (kind : ℕ) (h : Heap) → Answers (automatic l kind h)
unfolding automatic
automatic_known l kind h = budgeted_known l kind _ _

-- What the six calls do.
budget_in_known : (n : ℕ) (l : Lay) (h : Heap) → Answers (budget_in n l h)
unfolding budget_in
budget_in_known n l h = cond_both Answers (is_out h.words) _ _ (λ e. tt) (λ e. budgeted_known l 2 n h)

steps_on_known : (l : Lay) (kind left : ℕ) (h : Heap) → Answers (steps_on l kind left h)
unfolding steps_on
steps_on_known l kind left h =
    on_turn_known (after_cost left 100 h.words) h.bytes (λ k g. budgeted l kind k g) (after_cost_known left 100 h.words)
    (λ k g. budgeted_known l kind k g)

resumed_known : (l : Lay) (kind left : ℕ) (h : Heap) → Answers (resumed l kind left h)
unfolding resumed
resumed_known l kind left h =
    eq_both Answers _ _ _ _ (λ e. tt)
    (λ e. eq_both Answers _ _ _ _ (λ z. steps_on_known l 2 left h)
    (λ z. eq_both Answers _ _ _ _ (λ y. limited_known (steps_on l 3 left h).1.words (steps_on l 3 left h).0)
    (λ y. eq_both Answers _ _ _ _ (λ x. full_first_known l h) (λ x. full_second_known l h))))

pub gc_singlestep_known : (h : Heap) → Answers (gc_singlestep h)
unfolding gc_singlestep single_in
gc_singlestep_known h = call_marked_known _ _ (λ l. cond_both Answers (is_out h.words) _ _ (λ e. tt) (λ e. go (single_step l h)))
  where
    go : (x : Single × Heap) → Answers (stepped x)
    go (Cost c, g) = tt
    go (Out r v, g) = tt

pub gc_step_known : (budget : ℤ) (h : Heap) → Answers (gc_step budget h)
unfolding gc_step
gc_step_known budget h = call_marked_known _ _ (λ l. budget_in_known (budget_of budget) l h)

pub gc_step_auto_known : (h : Heap) → Answers (gc_step_auto h)
unfolding gc_step_auto auto_in
gc_step_auto_known h = call_marked_known _ _ (λ l. budget_in_known _ l _)

pub gc_check_known : (h : Heap) → Answers (gc_check h)
unfolding gc_check check_in
gc_check_known h =
    call_marked_known _ _ (λ l. cond_both Answers (is_due h.words) _ _
    (λ e. limited_known (automatic l 3 h).1.words (automatic l 3 h).0)
    (λ e. limited_known h.words (Ok Passed)))

pub full_gc_known : (h : Heap) → Answers (full_gc h)
unfolding full_gc full_in
full_gc_known h = call_marked_known _ _ (λ l. cond_both Answers (is_out h.words) _ _ (λ e. tt) (λ e. full_first_known l _))

pub finish_known : (ok : Bool) (h : Heap) → Answers (finish ok h)
unfolding finish finish_in
finish_known ok h = call_marked_known _ _ (λ l. eq_both Answers _ _ _ _ (λ e. tt) (λ e. cond_both Answers ok _ _ (λ z. resumed_known l _ _ _) (λ z. tt)))
