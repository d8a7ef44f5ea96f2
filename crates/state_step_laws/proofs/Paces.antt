-- Budgeted steps and full collections keep the state, and a full collection's first half comes to its end. The definitions are those of
-- specs/Paces.antt. Assumes nothing.
--     turn_state, budgeted_state     turns of a budgeted step
--     drive_state              steps until a phase, as far as they come
--     drive_final, drive_sweep     from the sweep or Finalize so many steps as are made come to Pause, or hand a finalizer out
--     first_state, second_state     both halves of a full collection
use Rattle.std.specs.Prelude.{◌≡◌, ◌⊎◌, Ok, Result, Some, None, Option}
use Rattle.std.proofs.Common.{sym, subst, ap, ◌∙◌, inl, inr, ⊎_elim, arith}
use mathlib.Core.List.{List}
use Prim.Native.Nat.{ℕ, zero, suc, min, ◌+◌, ◌-◌, ◌≤◌, ◌<◌}
use Rattle.std.proofs.Math.Decide.{ℕ_discrete, dec_lt}
use Rattle.base.specs.Words.{at}
use Rattle.base.specs.Heap.{Heap, heap}
use Rattle.base.specs.declared.Refusal.{Refusal}
use Rattle.std.specs.declared.ops.ControlFlow.TheVariants.{Continue, Break}
use Rattle.std.specs.declared.ops.ControlFlow.{ControlFlow}
use Rattle.value.specs.declared.Value.{Value}
use Rattle.value.specs.declared.UdRef.{UdRef}
use Rattle.layout.specs.declared.Lay.{Lay}
use Rattle.layout.specs.Places.{PHASE}
use Rattle.lists.specs.Lists.{length_of}
use Rattle.laid.specs.Laid.{Laid}
use Rattle.mark.specs.Words.{arena_of}
use Rattle.accounts.specs.declared.Answer.{Answer}
use Rattle.accounts.specs.declared.Answer.TheVariants.{Unfinished, Ended}
use Rattle.accounts.specs.Accounts.{update_threshold, step_ends, after_cost, grown}
use Rattle.step.specs.declared.Single.{Single}
use Rattle.step.specs.declared.Single.TheVariants.{Cost, Out}
use Rattle.step.specs.Step.{start_cycle, single_step}
use Rattle.pace.specs.Pace.{steps_most, turned, turn, on_turn, budgeted_for, budgeted, on_step, driven_for, driven, on_half, over, full_second, full_first, automatic}
use Rattle.mark_laws.specs.Apart.{Apart}
use Rattle.room_laws.specs.Tallies.{Ample}
use Rattle.room_laws.proofs.Queues.{queue_count}
use Rattle.atomic_laws.specs.Bodies.{Bodies}
use Rattle.sweep_laws.specs.Places.{Rows}
use Rattle.sweep_laws.specs.Turns.{Progress}
use Rattle.sweep_laws.proofs.Finalizes.{finalize_step_lem}
use Rattle.state_laws.specs.State.{Swept, State}
use Rattle.state_laws.specs.Plains.{le_both, eq_both, plain_state}
use Rattle.state_step_laws.specs.Marks.{Free}
use Rattle.state_step_laws.proofs.Marks.{start_free}
use Rattle.state_step_laws.specs.Sweeps.{Sweeping, sweep_free}
use Rattle.state_step_laws.specs.Singles.{Final, After}
use Rattle.state_step_laws.proofs.Singles.{swept_on, swept_past, final_free, single_after}
use Rattle.state_step_laws.specs.Paces.{before}
use Rattle.state_step_laws.proofs.Plains.{free_plain, ends_plain, cycle_plain, grown_plain, handed_state}

before_next : (l : Lay) (j : ℕ) → before l (j + 1) ≡ before l j + (arena_of l j).slots + 1
unfolding before
before_next l j = let e : j + 1 ≡ suc j = omega arith in ap (before l) e

before_rise : (l : Lay) (j d : ℕ) → j ≤ d → before l j ≤ before l d
unfolding before
before_rise l j zero h = let e : j ≡ 0 = omega (arith, h) in subst (λ (n : ℕ). before l j ≤ before l n) e (omega arith)
before_rise l j (suc d) h = go (dec_lt d j) (λ k. before_rise l j d k)
  where
    more : (x y z : ℕ) → x ≤ y → x ≤ y + z + 1
    more x y z f = omega (arith, f)

    go : Dec (d < j) → (j ≤ d → before l j ≤ before l d) → before l j ≤ before l d + (arena_of l d).slots + 1
    go (yes k) rest = let e : j ≡ suc d = omega (arith, h, k) in subst (λ (n : ℕ). before l n ≤ before l d + (arena_of l d).slots + 1) (sym e) (omega arith)
    go (no k) rest = more (before l j) (before l d) (arena_of l d).slots (rest (omega (arith, k)))

before_last : (l : Lay) (j n : ℕ) → j ≤ 5 → n ≤ (arena_of l j).slots → before l j + n + 1 ≤ before l 6
before_last l j n h f = sums (before l j) n (arena_of l j).slots (before l (j + 1)) (before l 6) f (before_next l j) (before_rise l (j + 1) 6 (omega (arith, h)))
  where
    sums : (x n s y z : ℕ) → n ≤ s → y ≡ x + s + 1 → y ≤ z → x + n + 1 ≤ z
    sums x n s y z f e g = omega (arith, f, e, g)

before_all : (l : Lay) → before l 6 ≡ l.strings.slots + l.tables.slots + l.functions.slots + l.upvalues.slots + l.userdata.slots + l.threads.slots + 6
unfolding before
before_all l = omega arith

module _ (l : Lay) (ok : Laid l) (a : Apart l) (r : Rows l) where
  module _ (am : Ample l) (y : Bodies l) where
    -- the definitions of specs/Paces.antt, for these
    abbrev Turned : ControlFlow (Result Answer Refusal) ℕ × Heap → Type 0
    Turned = Rattle.state_step_laws.specs.Paces.Turned l ok a r am y

    pub cost_state : (left c : ℕ) {w b : List ℕ} → Free l (heap w b) → Turned ((after_cost left c w).0, heap (after_cost left c w).1 b)
    unfolding after_cost
    cost_state left c {w} {b} s =
        eq_both (λ (x : ControlFlow (Result Answer Refusal) ℕ × List ℕ). Turned (x.0, heap x.1 b)) (at w PHASE) 0 (Break (Ok Ended), update_threshold w) _ (λ e. plain_state l ok a r (cycle_plain l ok a r s.state) s.state)
        (λ d. le_both (λ (x : ControlFlow (Result Answer Refusal) ℕ × List ℕ). Turned (x.0, heap x.1 b)) left c (Break (Ok Unfinished), step_ends w) (Continue (left - c), w) (λ e. plain_state l ok a r (ends_plain l ok a r w) s.state) (λ e. s))

    turned_state : (kind left : ℕ) (x : Single × Heap) → After l ok a r am y x → Turned (turned kind left x)
    turned_state kind left (Cost c, h) s = cost_state left c s
    turned_state kind left (Out z v, h) s = handed_state l ok a r kind z left s.1 s.0.state

    pub turn_state : (kind left : ℕ) (h : Heap) → Free l h → Turned (turn l kind left h)
    unfolding turn
    turn_state kind left h s = turned_state kind left (single_step l h) (single_after l ok a r am y h s)

    pub on_turn_lem : (x : ControlFlow (Result Answer Refusal) ℕ × Heap) (on : ℕ → Heap → Result Answer Refusal × Heap) → Turned x → ((k : ℕ) (h : Heap) → Free l h → State l (on k h).1) → State l (on_turn x on).1
    on_turn_lem (Continue k, h) on s go = go k h s
    on_turn_lem (Break z, h) on s go = s

    for_state : (n kind left : ℕ) (h : Heap) → Free l h → State l (budgeted_for n l kind left h).1
    unfolding budgeted_for
    for_state zero kind left h s = s.state
    for_state (suc n) kind left h s = on_turn_lem (turn l kind left h) (λ k g. budgeted_for n l kind k g) (turn_state kind left h s) (λ k g t. for_state n kind k g t)

    -- A budgeted step, and one by the debt.
    pub budgeted_state : (kind left : ℕ) (h : Heap) → Free l h → State l (budgeted l kind left h).1
    unfolding budgeted
    budgeted_state kind left h s = for_state (steps_most l) kind left h s

    pub automatic_state : (kind : ℕ) (h : Heap) → Free l h → State l (automatic l kind h).1
    unfolding automatic
    automatic_state kind h s = budgeted_state kind _ (heap (grown h.words) h.bytes) (free_plain l ok a r (grown_plain l ok a r h.words) s)

    abbrev Driven : Option (UdRef × Value) × Heap → Type 0
    Driven = Rattle.state_step_laws.specs.Paces.Driven l ok a r am y

    on_step_lem : (kind : ℕ) (x : Single × Heap) (on : Heap → Option (UdRef × Value) × Heap) → After l ok a r am y x → ((g : Heap) → Free l g → Driven (on g)) → Driven (on_step kind x on)
    on_step_lem kind (Cost c, h) on s go = go h s
    on_step_lem kind (Out z v, h) on s go = handed_state l ok a r kind z 0 s.1 s.0.state

    pub drive_state : (n kind end : ℕ) (h : Heap) → Free l h → Driven (driven_for n l kind end h)
    unfolding driven_for
    drive_state zero kind end h s = s
    drive_state (suc n) kind end h s =
        le_both Driven (at h.words PHASE) end (None, h) (on_step kind (single_step l h) (λ g. driven_for n l kind end g)) (λ e. s)
        (λ e. on_step_lem kind (single_step l h) (λ g. driven_for n l kind end g) (single_after l ok a r am y h s) (λ g t. drive_state n kind end g t))

    -- The second half of a full collection.
    on_second : (x : Option (UdRef × Value) × Heap) → Driven x → State l (on_half x (over update_threshold (Ok Ended))).1
    on_second (None, h) s = plain_state l ok a r (cycle_plain l ok a r s.state) s.state
    on_second (Some (z, v), h) s = s

    pub second_state : (h : Heap) → Free l h → State l (full_second l h).1
    unfolding full_second driven
    second_state h s = on_second (driven_for (steps_most l) l 5 0 h) (drive_state (steps_most l) 5 0 h s)

    abbrev Through : Option (UdRef × Value) × Heap → Type 0
    Through = Rattle.state_step_laws.specs.Paces.Through l ok a r am y

    step_through : (kind : ℕ) (x : Single × Heap) (on : Heap → Option (UdRef × Value) × Heap) → After l ok a r am y x → Through (on x.1) → Through (on_step kind x on)
    step_through kind (Cost c, h) on s t = t
    step_through kind (Out z v, h) on s t = handed_state l ok a r kind z 0 s.1 s.0.state

    -- there already
    drive_there : (n kind : ℕ) (h : Heap) → Free l h → at h.words PHASE ≤ 1 → Through (driven_for n l kind 1 h)
    unfolding driven_for
    drive_there zero kind h s p = (s, p)
    drive_there (suc n) kind h s p =
        le_both Through (at h.words PHASE) 1 (None, h) (on_step kind (single_step l h) (λ g. driven_for n l kind 1 g)) (λ e. (s, p)) (λ e. absurd (let z : ⊥ = omega (arith, e, p) in z))

    -- one step on
    drive_step : (n kind : ℕ) (h : Heap) → Free l h → 1 < at h.words PHASE → Through (driven_for n l kind 1 (single_step l h).1) → Through (driven_for (suc n) l kind 1 h)
    unfolding driven_for
    drive_step n kind h s p t =
        le_both Through (at h.words PHASE) 1 (None, h) (on_step kind (single_step l h) (λ g. driven_for n l kind 1 g)) (λ e. absurd (let z : ⊥ = omega (arith, e, p) in z))
        (λ e. step_through kind (single_step l h) (λ g. driven_for n l kind 1 g) (single_after l ok a r am y h s) t)

    -- from Finalize: a step for each that is queued, and one
    drive_final : (n kind : ℕ) (h : Heap) → Free l h → at h.words PHASE ≡ 4 → length_of l.queue h.words + 1 ≤ n → Through (driven_for n l kind 1 h)
    drive_final zero kind h s p f = absurd (none (length_of l.queue h.words) f)
      where
        none : (x : ℕ) → x + 1 ≤ 0 → ⊥
        none x f = omega (arith, f)
    drive_final (suc n) kind h s p f = drive_step n kind h s (omega (arith, p)) (go m.phase (λ e k. drive_final n kind (single_step l h).1 m.free e k))
      where
        m : Final l ok a r h (single_step l h).1
        m = subst (λ (g : Heap). Final l ok a r h g) (sym (ap (λ (x : Single × Heap). x.1) (finalize_step_lem l h p))) (final_free l ok a r h.words h.bytes s p).0

        less : (x z : ℕ) → x + 1 ≡ z → z + 1 ≤ suc n → x + 1 ≤ n
        less x z e g = omega (arith, e, g)

        go : (at (single_step l h).1.words PHASE ≡ 0) ⊎ ((at (single_step l h).1.words PHASE ≡ 4) × (length_of l.queue (single_step l h).1.words + 1 ≡ length_of l.queue h.words))
            → (at (single_step l h).1.words PHASE ≡ 4 → length_of l.queue (single_step l h).1.words + 1 ≤ n → Through (driven_for n l kind 1 (single_step l h).1))
            → Through (driven_for n l kind 1 (single_step l h).1)
        go (inl e) rest = drive_there n kind (single_step l h).1 m.free (omega (arith, e))
        go (inr e) rest = rest e.0 (less (length_of l.queue (single_step l h).1.words) (length_of l.queue h.words) e.1 f)

    -- from the sweep: before that a step for each slot and each arena that is still to be swept
    drive_sweep : (n kind : ℕ) (h : Heap) (s : Free l h) (t : Swept l h.words) → t.arena ≤ 5 → before l 6 + length_of l.queue h.words + 1 ≤ n + (before l t.arena + t.slot)
        → Through (driven_for n l kind 1 h)
    drive_sweep zero kind h s t i f =
        absurd (none (before l t.arena + t.slot) (before l 6) (length_of l.queue h.words) (before_last l t.arena t.slot i (small t i)) f)
      where
        small : (t : Swept l h.words) (i : t.arena ≤ 5) → t.slot ≤ (arena_of l t.arena).slots
        small t i = omega (arith, t.within i, (s.state.arenas t.arena i).within)

        none : (x z q : ℕ) → x + 1 ≤ z → z + q + 1 ≤ 0 + x → ⊥
        none x z q f g = omega (arith, f, g)
    drive_sweep (suc n) kind h s t i f =
        drive_step n kind h s phase (go (dec_lt m.swept.arena 6) (λ j k. drive_sweep n kind (single_step l h).1 m.free m.swept j k))
      where
        m : Sweeping l ok a r h (single_step l h).1 t.arena t.slot
        m = sweep_free l ok a r h s t i

        phase : 1 < at h.words PHASE
        phase = pick (ℕ_discrete t.arena 0)
          where
            pick : Dec (t.arena ≡ 0) → 1 < at h.words PHASE
            pick (yes e) = omega (arith, (t.strings e).0)
            pick (no e) = omega (arith, (t.others (omega (arith, e)) i).0)

        small : t.slot ≤ (arena_of l t.arena).slots
        small = omega (arith, t.within i, (s.state.arenas t.arena i).within)

        queue : length_of l.queue (single_step l h).1.words ≡ length_of l.queue h.words
        queue = ap (λ (k : ℕ). min k l.queue.room) (ap (at (single_step l h).1.words) (queue_count l ok) ∙ m.queue ∙ ap (at h.words) (sym (queue_count l ok)))

        -- further on
        on : before l t.arena + t.slot + 1 ≤ before l m.swept.arena + m.swept.slot
        on = pick m.on
          where
            here : (x z p q : ℕ) → z ≡ x → p + 80 ≤ q → x + p + 1 ≤ z + q
            here x z p q e f = omega (arith, e, f)

            next : (x z p q s : ℕ) → z ≡ x + s + 1 → p ≤ s → q ≡ 0 → x + p + 1 ≤ z + q
            next x z p q s e f g = omega (arith, e, f, g)

            pick : Progress t.arena t.slot m.swept.arena m.swept.slot → before l t.arena + t.slot + 1 ≤ before l m.swept.arena + m.swept.slot
            pick (inl e) = here (before l t.arena) (before l m.swept.arena) t.slot m.swept.slot (ap (before l) e.0) e.1
            pick (inr e) =
                next (before l t.arena) (before l m.swept.arena) t.slot m.swept.slot (arena_of l t.arena).slots (ap (before l) e.0 ∙ before_next l t.arena) small e.1

        still : (x z u v q : ℕ) → x + 1 ≤ z → v ≡ q → u + q + 1 ≤ suc n + x → u + v + 1 ≤ n + z
        still x z u v q e g k = omega (arith, e, g, k)

        last : (x u v q : ℕ) → x + 1 ≤ u → v ≡ q → u + q + 1 ≤ suc n + x → v + 1 ≤ n
        last x u v q e g k = omega (arith, e, g, k)

        go : Dec (m.swept.arena < 6)
            → (m.swept.arena ≤ 5 → before l 6 + length_of l.queue (single_step l h).1.words + 1 ≤ n + (before l m.swept.arena + m.swept.slot) → Through (driven_for n l kind 1 (single_step l h).1))
            → Through (driven_for n l kind 1 (single_step l h).1)
        go (yes d) rest =
            rest (omega (arith, d))
            (still (before l t.arena + t.slot) (before l m.swept.arena + m.swept.slot) (before l 6) (length_of l.queue (single_step l h).1.words) (length_of l.queue h.words) on queue f)
        go (no d) rest =
            ⊎_elim (λ e. drive_there n kind (single_step l h).1 m.free (omega (arith, e)))
            (λ e. drive_final n kind (single_step l h).1 m.free e
            (last (before l t.arena + t.slot) (before l 6) (length_of l.queue (single_step l h).1.words) (length_of l.queue h.words) (before_last l t.arena t.slot i small) queue f))
            (m.swept.ended (omega (arith, d, m.swept.most)))

    -- As many steps as are made are enough.
    pub drive_through : (kind : ℕ) (h : Heap) → Free l h → 2 ≤ at h.words PHASE → Through (driven l kind 1 h)
    unfolding driven
    drive_through kind h s p = go (ℕ_discrete (at h.words PHASE) 2) (ℕ_discrete (at h.words PHASE) 3)
      where
        t : Swept l h.words
        t = s.state.swept (λ e. omega (arith, e, p))

        few : length_of l.queue h.words ≤ l.queue.room
        few = omega arith

        enough : (q x z : ℕ) → q ≤ l.queue.room → x ≡ l.strings.slots + l.tables.slots + l.functions.slots + l.upvalues.slots + l.userdata.slots + l.threads.slots + 6 → x + q + 1 ≤ steps_most l + z
        enough q x z f e = omega (arith, f, e)

        sweeps : t.arena ≤ 5 → Through (driven_for (steps_most l) l kind 1 h)
        sweeps i = drive_sweep (steps_most l) kind h s t i (enough (length_of l.queue h.words) (before l 6) (before l t.arena + t.slot) few (before_all l))

        ready : (q : ℕ) → q ≤ l.queue.room → q + 1 ≤ steps_most l
        ready q f = omega (arith, f)

        go : Dec (at h.words PHASE ≡ 2) → Dec (at h.words PHASE ≡ 3) → Through (driven_for (steps_most l) l kind 1 h)
        go (yes e) d = sweeps (swept_on t (inl e))
        go (no c) (yes e) = sweeps (swept_on t (inr e))
        go (no c) (no d) =
            drive_final (steps_most l) kind h s (⊎_elim (λ z. absurd (let y : ⊥ = omega (arith, z, p) in y)) (λ z. z) (swept_past t c d).1) (ready (length_of l.queue h.words) few)

    -- The first half of a full collection, then the second.
    on_first : (x : Option (UdRef × Value) × Heap) → Through x → State l (on_half x (λ g. full_second l (heap (start_cycle l g.words) g.bytes))).1
    on_first (None, h) s = second_state (heap (start_cycle l h.words) h.bytes) (start_free l ok a r am s.1 s.0.state)
    on_first (Some (z, v), h) s = s

    pub first_state : (h : Heap) → Free l h → 2 ≤ at h.words PHASE → State l (full_first l h).1
    unfolding full_first
    first_state h s p = on_first (driven l 4 1 h) (drive_through 4 h s p)
