-- A collection by any mixture of single, budgeted and automatic steps: budgets alter nothing of what is freed. A budgeted step makes
-- single steps, and writes words of pacing in between; it may run on into Finalize and to Pause. Assumes nothing.
--     Call, called, calls     the steps, and a list of them until one has ended the sweep
--     Rules, budgeted_keeps, called_keeps, chosen     what each keeps, for any predicates that single steps and stores keep
--     calls_freed, planned_calls     demand 3; for the layout of any sizes
use Rattle.std.specs.Prelude.{◌≡◌, ◌⊎◌, ◌≢◌, length, Ok, Result}
use Rattle.std.proofs.Math.Path.{refl, subst}
use Rattle.std.proofs.Common.{sym, ◌∙◌, get_or-set_other}
use Rattle.std.proofs.Math.Logic.{inl, inr, ⊎_elim}
use mathlib.Core.List.{List, [], ◌∷◌}
use Prim.Native.Nat.{ℕ, zero, suc, ◌+◌, ◌-◌, ◌≤◌, ◌<◌}
use Rattle.std.proofs.Math.Decide.{ℕ_discrete, dec_lt}
use native.Mathlib.Omega.{arith}
use Rattle.base.specs.Ways.{if_eq, eq_yes, eq_no, le_yes, le_no}
use Rattle.base.specs.Words.{at, put}
use Rattle.base.specs.Heap.{Heap, heap}
use Rattle.base.specs.declared.Refusal.{Refusal}
use Rattle.std.specs.declared.ops.ControlFlow.TheVariants.{Continue, Break}
use Rattle.std.specs.declared.ops.ControlFlow.{ControlFlow}
use Rattle.value.specs.declared.UdRef.{UdRef}
use Rattle.value.specs.Handles.{put_handle}
use Rattle.layout.specs.declared.Sizes.{Sizes}
use Rattle.layout.specs.declared.Lay.{Lay}
use Rattle.layout.specs.Sizes.{SizesOk}
use Rattle.layout.specs.Layout.{lay_of}
use Rattle.layout.specs.Places.{PHASE, TOTAL, THRESHOLD, DEBT, INTERRUPTED, OUT, REMAINING}
use Rattle.lists.specs.Lists.{length_of}
use Rattle.laid.specs.Laid.{Laid, laid_of}
use Rattle.mark_laws.specs.Apart.{Apart, apart}
use Rattle.room_laws.specs.Tallies.{Ample}
use Rattle.room_laws.proofs.Tallies.{ample}
use Rattle.reach.specs.Cycle.{AllWhite}
use Rattle.atomic_laws.specs.Bodies.{Bodies, bodies}
use Rattle.accounts.specs.declared.Answer.{Answer}
use Rattle.accounts.specs.declared.Answer.TheVariants.{Unfinished, Ended}
use Rattle.accounts.specs.Accounts.{update_threshold, step_ends, handed, after_cost, grown}
use Rattle.step.specs.declared.Single.{Single}
use Rattle.step.specs.declared.Single.TheVariants.{Cost, Out}
use Rattle.step.specs.Step.{single_step}
use Rattle.pace.specs.Pace.{steps_most, turned, turn, on_turn, budgeted_for, budgeted, automatic}
use Rattle.sweep_laws.specs.Places.{Rows, rows}
use Rattle.sweep_laws.specs.Turns.{Arenas}
use Rattle.sweep_laws.specs.Mixtures.{Outcome, Going, paused, Past}
use Rattle.sweep_laws.proofs.Mixtures.{based_none, step_keeps, going_phase, store_keeps, past_phase, past_store, past_freed}
use Rattle.sweep_laws.proofs.Finalizes.{past_step}

-- A single step; a budgeted one, with the kind of call that it is for and the budget; one by the debt and stepmul.
pub data Call : Type 0 where
  single : Call
  budget : ℕ → ℕ → Call
  auto : ℕ → Call

abbrev pub called : Lay → Call → Heap → Heap
called l single h = (single_step l h).1
called l (budget kind n) h = (budgeted l kind n h).1
called l (auto kind) h = (automatic l kind h).1

-- Calls one after the other, until one has ended the sweep: the phase is then Finalize, or Pause again.
unfoldable pub calls : Lay → List Call → Heap → Heap
calls l [] h = h
calls l (c ∷ cs) h =
    let g = called l c h in
    if_eq (at g.words PHASE) 0 g (if_eq (at g.words PHASE) 4 g (calls l cs g))

-- What every call keeps, for any three predicates that single steps and stores of words of pacing keep: F of the heap that a call is
-- made from, G of a collection under way, P of one whose sweep is over.
module _ (l : Lay) (G P : Heap → Type 0) where
  -- under way, not at Pause, or past the sweep
  abbrev pub State : Heap → Type 0
  State h = (G h × (at h.words PHASE ≢ 0)) ⊎ P h

  -- the same, not at Pause
  abbrev pub Awake : Heap → Type 0
  Awake h = (G h × (at h.words PHASE ≢ 0)) ⊎ (P h × (at h.words PHASE ≡ 4))

  pub record Rules (F : Heap → Type 0) : Type 0 where
    pub first : (h : Heap) → F h → State (single_step l h).1
    pub next : (h : Heap) → Awake h → State (single_step l h).1
    pub phase : (h : Heap) → P h → (at h.words PHASE ≡ 4) ⊎ (at h.words PHASE ≡ 0)
    pub under : (h : Heap) → G h → at h.words PHASE ≢ 4
    pub store_first : (p : ℕ) → 57 ≤ p → p < 69 → (n : ℕ) (u c : List ℕ) → F (heap u c) → F (heap (put p n u) c)
    pub store_going : (p : ℕ) → 57 ≤ p → p < 69 → (n : ℕ) (u c : List ℕ) → G (heap u c) → G (heap (put p n u) c)
    pub store_past : (p : ℕ) → 57 ≤ p → p < 69 → (n : ℕ) (u c : List ℕ) → P (heap u c) → P (heap (put p n u) c)

  module _ {F : Heap → Type 0} (k : Rules F) where
    awake_state : {h : Heap} → Awake h → State h
    awake_state (inl g) = inl g
    awake_state (inr p) = inr p.0

    pub state_awake : {h : Heap} → State h → at h.words PHASE ≢ 0 → Awake h
    state_awake (inl g) d = inl g
    state_awake {h} (inr p) d = inr (p, ⊎_elim (λ z. z) (λ z. absurd (d z)) (k.phase h p))

    -- A word of pacing changes.
    stored_phase : (p : ℕ) → 57 ≤ p → (n : ℕ) (u : List ℕ) → at (put p n u) PHASE ≡ at u PHASE
    stored_phase p g n u = get_or-set_other u p PHASE n 0 (λ e. omega (arith, e, g))

    pub state_store : (p : ℕ) → 57 ≤ p → p < 69 → (n : ℕ) (u c : List ℕ) → State (heap u c) → State (heap (put p n u) c)
    state_store p g q n u c (inl s) = inl (k.store_going p g q n u c s.0, λ z. s.1 (sym (stored_phase p g n u) ∙ z))
    state_store p g q n u c (inr s) = inr (k.store_past p g q n u c s)

    -- The ends of a step and of a cycle, and a hand-out, write words of pacing.
    ends_state : (u c : List ℕ) → State (heap u c) → State (heap (step_ends u) c)
    unfolding step_ends
    ends_state u c s =
        state_store (THRESHOLD + 1) (omega arith) (omega arith) _ _ c
        (state_store THRESHOLD (omega arith) (omega arith) _ _ c
        (state_store (DEBT + 1) (omega arith) (omega arith) _ _ c
        (state_store DEBT (omega arith) (omega arith) _ u c s)))

    pub cycle_state : (u c : List ℕ) → State (heap u c) → State (heap (update_threshold u) c)
    unfolding update_threshold
    cycle_state u c s =
        state_store (THRESHOLD + 1) (omega arith) (omega arith) _ _ c
        (state_store THRESHOLD (omega arith) (omega arith) _ _ c
        (state_store TOTAL (omega arith) (omega arith) _ u c s))

    pub handed_state : (kind : ℕ) (x : UdRef) (left : ℕ) (u c : List ℕ) → State (heap u c) → State (heap (handed kind x left u) c)
    unfolding handed put_handle
    handed_state kind x left u c s =
        state_store (REMAINING + 1) (omega arith) (omega arith) _ _ c
        (state_store REMAINING (omega arith) (omega arith) _ _ c
        (state_store (OUT + 1) (omega arith) (omega arith) _ _ c
        (state_store OUT (omega arith) (omega arith) _ _ c
        (state_store INTERRUPTED (omega arith) (omega arith) _ u c s))))

    -- What a turn leaves: work to go on with, or an end.
    abbrev Turned : ControlFlow (Result Answer Refusal) ℕ × Heap → Type 0
    Turned (Continue j, h) = Awake h
    Turned (Break x, h) = State h

    cost_keeps : (left c : ℕ) (h : Heap) → State h → Turned ((after_cost left c h.words).0, heap (after_cost left c h.words).1 h.bytes)
    unfolding after_cost
    cost_keeps left c h s = go (ℕ_discrete (at h.words PHASE) 0) (dec_lt c left)
      where
        T : ControlFlow (Result Answer Refusal) ℕ × List ℕ → Type 0
        T x = Turned (x.0, heap x.1 h.bytes)

        go : Dec (at h.words PHASE ≡ 0) → Dec (c < left) → T (after_cost left c h.words)
        go (yes e) d = subst T (eq_yes (at h.words PHASE) 0 (Break (Ok Ended), update_threshold h.words) _ _ e refl) (cycle_state h.words h.bytes s)
        go (no e) (yes d) =
            subst T (eq_no (at h.words PHASE) 0 (Break (Ok Ended), update_threshold h.words) _ _ e (le_no left c (Break (Ok Unfinished), step_ends h.words) (Continue (left - c), h.words) _ d refl)) (state_awake s e)
        go (no e) (no d) =
            subst T (eq_no (at h.words PHASE) 0 (Break (Ok Ended), update_threshold h.words) _ _ e (le_yes left c (Break (Ok Unfinished), step_ends h.words) (Continue (left - c), h.words) _ (omega (arith, d)) refl))
            (ends_state h.words h.bytes s)

    turned_keeps : (kind left : ℕ) (x : Single × Heap) → State x.1 → Turned (turned kind left x)
    turned_keeps kind left (Cost c, h) s = cost_keeps left c h s
    turned_keeps kind left (Out q z, h) s = handed_state kind q left h.words h.bytes s

    on_keeps : (x : ControlFlow (Result Answer Refusal) ℕ × Heap) (on : ℕ → Heap → Result Answer Refusal × Heap) → Turned x → ((j : ℕ) (h : Heap) → Awake h → State (on j h).1) → State (on_turn x on).1
    on_keeps (Continue j, h) on s go = go j h s
    on_keeps (Break x, h) on s go = s

    for_keeps : (n kind left : ℕ) (h : Heap) → Awake h → State (budgeted_for n l kind left h).1
    unfolding budgeted_for turn
    for_keeps zero kind left h s = awake_state s
    for_keeps (suc n) kind left h s = on_keeps (turn l kind left h) (λ j g. budgeted_for n l kind j g) (turned_keeps kind left (single_step l h) (k.next h s)) (λ j g t. for_keeps n kind j g t)

    -- A budgeted step makes one turn at least.
    pub budgeted_keeps : (kind left : ℕ) (h : Heap) → F h → State (budgeted l kind left h).1
    unfolding budgeted budgeted_for turn
    budgeted_keeps kind left h s =
        let n : ℕ = steps_most l - 1 in
        let e : suc n ≡ steps_most l = omega arith in
        subst (λ (j : ℕ). State (budgeted_for j l kind left h).1) e
        (on_keeps (turn l kind left h) (λ j g. budgeted_for n l kind j g) (turned_keeps kind left (single_step l h) (k.first h s)) (λ j g t. for_keeps n kind j g t))

    -- Each call.
    pub called_keeps : (c : Call) (h : Heap) → F h → State (called l c h)
    unfolding automatic
    called_keeps single h s = k.first h s
    called_keeps (budget kind n) h s = budgeted_keeps kind n h s
    called_keeps (auto kind) h s =
        budgeted_keeps kind _ (heap (grown h.words) h.bytes)
        (k.store_first (DEBT + 1) (omega arith) (omega arith) _ _ h.bytes (k.store_first DEBT (omega arith) (omega arith) _ h.words h.bytes s))

    -- After a call that has not ended the sweep come the others.
    pub chosen : (E : Heap → Type 0) (g t : Heap) → State g → (P g → E g) → (G g × (at g.words PHASE ≢ 0) → E t) → E (if_eq (at g.words PHASE) 0 g (if_eq (at g.words PHASE) 4 g t))
    chosen E g t s past rest = go s (ℕ_discrete (at g.words PHASE) 0) (ℕ_discrete (at g.words PHASE) 4)
      where
        go : State g → Dec (at g.words PHASE ≡ 0) → Dec (at g.words PHASE ≡ 4) → E (if_eq (at g.words PHASE) 0 g (if_eq (at g.words PHASE) 4 g t))
        go (inl s) (yes e) d = absurd (s.1 e)
        go (inl s) (no e) (yes d) = absurd (k.under g s.0 d)
        go (inl s) (no e) (no d) = subst E (eq_no (at g.words PHASE) 0 g _ t e (eq_no (at g.words PHASE) 4 g _ t d refl)) (rest s)
        go (inr s) (yes e) d = subst E (eq_yes (at g.words PHASE) 0 g _ g e refl) (past s)
        go (inr s) (no e) (yes d) = subst E (eq_no (at g.words PHASE) 0 g _ g e (eq_yes (at g.words PHASE) 4 g _ g d refl)) (past s)
        go (inr s) (no e) (no d) = absurd (⊎_elim (λ z. d z) (λ z. e z) (k.phase g s))

module _ (l : Lay) (ok : Laid l) (a : Apart l) (r : Rows l) (am : Ample l) (y : Bodies l) (w b : List ℕ) (long : l.words ≤ length w) (f : AllWhite l w) (none : length_of l.queue w ≡ 0)
    (v : Arenas l w) where
  abbrev G : Heap → Type 0
  G h = Going l ok a r am y w b long f none v h

  abbrev P : Heap → Type 0
  P h = Past l ok a r am y w b long f none v h

  -- what a single step may be made from: under way, or in Finalize
  abbrev Live : Heap → Type 0
  Live h = G h ⊎ (P h × (at h.words PHASE ≡ 4))

  -- Single steps and words of pacing keep them.
  rules : Rules l G P Live
  rules = record {
    first = step;
    next = λ h s. step h (⊎_elim (λ g. inl g.0) (λ p. inr p) s);
    phase = λ h p. ⊎_elim (λ z. inl z) (λ z. inr z.0) (past_phase l ok a r am y w b long f none v p);
    under = λ h g. going_phase l ok a r am y w b long f none v g;
    store_first = λ p g q n u c s. ⊎_elim (λ t. inl (store_keeps l ok a r am y w b long f none v p g q n (heap u c) t))
        (λ t. inr (past_store l ok a r am y w b long f none v p g q n (heap u c) t.0, get_or-set_other u p PHASE n 0 (λ e. omega (arith, e, g)) ∙ t.1)) s;
    store_going = λ p g q n u c s. store_keeps l ok a r am y w b long f none v p g q n (heap u c) s;
    store_past = λ p g q n u c s. past_store l ok a r am y w b long f none v p g q n (heap u c) s;
  }
    where
      step : (h : Heap) → Live h → State l G P (single_step l h).1
      step h (inl g) = ⊎_elim (λ z. inl z) (λ z. inr z.0) (step_keeps l ok a r am y w b long f none v h g)
      step h (inr p) = inr (past_step l ok a r am y w b long f none v h p.0 p.1)

  calls_on : (cs : List Call) (h : Heap) → G h × (at h.words PHASE ≢ 0) → State l G P (calls l cs h)
  unfolding calls
  calls_on [] h s = inl s
  calls_on (c ∷ cs) h s = chosen l G P rules (State l G P) (called l c h) (calls l cs (called l c h)) (called_keeps l G P rules c h (inl s.0)) (λ t. inr t) (λ t. calls_on cs (called l c h) t)

  -- Demand 3 for any mixture of calls.
  pub calls_freed : l.bytes ≤ length b → at w PHASE ≡ 0 → (c : Call) (cs : List Call)
      → ((at (calls l (c ∷ cs) (heap w b)).words PHASE ≡ 4) ⊎ (at (calls l (c ∷ cs) (heap w b)).words PHASE ≡ 0)) → Outcome l w b v (calls l (c ∷ cs) (heap w b))
  unfolding calls
  calls_freed wide pause c cs p =
      ⊎_elim (λ s. absurd (⊎_elim (λ z. going_phase l ok a r am y w b long f none v s.0 z) (λ z. s.1 z) p)) (λ s. past_freed l ok a r am y w b long f none v wide (calls l (c ∷ cs) (heap w b)) s)
      (chosen l G P rules (State l G P) (called l c (heap w b)) (calls l cs (called l c (heap w b)))
      (called_keeps l G P rules c (heap w b) (inl (paused w refl (based_none l ok a r am y w b long f none v) pause))) (λ t. inr t) (λ t. calls_on cs (called l c (heap w b)) t))

-- Demand 3 for the layout of any sizes within their ranges: from Pause, every occupied slot in the current white, the queue empty and
-- the six arenas well-formed. Whatever single, budgeted and automatic steps are made, in any order and with any budgets, when one has
-- ended the sweep the slots freed are exactly the occupied ones that are neither kept nor spared, each once. It may have run on into
-- Finalize, and to Pause.
pub planned_calls : (s : Sizes) → SizesOk s → (w b : List ℕ) → (lay_of s).words ≤ length w → (lay_of s).bytes ≤ length b → at w PHASE ≡ 0 → AllWhite (lay_of s) w → length_of (lay_of s).queue w ≡ 0
    → (v : Arenas (lay_of s) w) (c : Call) (cs : List Call)
    → ((at (calls (lay_of s) (c ∷ cs) (heap w b)).words PHASE ≡ 4) ⊎ (at (calls (lay_of s) (c ∷ cs) (heap w b)).words PHASE ≡ 0)) → Outcome (lay_of s) w b v (calls (lay_of s) (c ∷ cs) (heap w b))
planned_calls s h w b long wide pause f none v c cs p = calls_freed (lay_of s) (laid_of s h) (apart s) (rows s) (ample s) (bodies s) w b long f none v wide pause c cs p
