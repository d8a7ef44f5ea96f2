-- A full collection from Pause: the sweep without a flip that comes first frees nothing, since every occupied slot has the current white,
-- and leaves what a collection asks for; the cycle that follows frees exactly what is to be freed. Assumes nothing.
--     cost_step            before Finalize a single step hands nothing out
--     driven_runs          steps until the phase is at most `end`, where none hands out
--     first_half           what is under way is given up, and nothing is freed
--     second_half          the cycle that follows
--     full_result, planned_full     the theorem; for the layout of any sizes
use Rattle.std.specs.Prelude.{◌≡◌, ◌⊎◌, ◌≢◌, ltb, length, Ok, Option, Result as Fallible, Some, None}
use Rattle.std.proofs.Math.Path.{refl, sym, subst, ap}
use Rattle.std.proofs.Common.{◌∙◌, inr, ⊎_elim, arith, get_or-set_same, get_or-set_other}
use Rattle.std.proofs.Math.Bool.{cond}
use Rattle.std.proofs.Math.Logic.{inl}
use mathlib.Core.List.{List}
use Prim.Native.Nat.{ℕ, zero, suc, ◌+◌, ◌-◌, ◌*◌, ◌≤◌, ◌<◌}
use Rattle.std.proofs.Math.Decide.{ℕ_discrete}
use Rattle.base.specs.Ways.{eq_yes, eq_no, le_yes, le_no}
use Rattle.base.specs.Words.{at, put}
use Rattle.base.specs.Heap.{Heap, heap}
use Rattle.base.specs.declared.Refusal.{Refusal}
use Rattle.lists.specs.declared.Item.{Item}
use Rattle.value.specs.declared.UdRef.{UdRef}
use Rattle.value.specs.declared.Value.{Value}
use Rattle.value.specs.Handles.{put_handle}
use Rattle.layout.specs.declared.Sizes.{Sizes}
use Rattle.layout.specs.declared.Lay.{Lay}
use Rattle.layout.specs.Sizes.{SizesOk}
use Rattle.layout.specs.Layout.{lay_of}
use Rattle.layout.specs.Places.{PHASE, CURSOR_ARENA, CURSOR_SLOT, TOTAL, THRESHOLD, DEBT, INTERRUPTED, OUT, REMAINING}
use Rattle.lists.specs.Lists.{length_of}
use Rattle.lists.proofs.Laws.{pop_none}
use Rattle.laid.specs.Laid.{Laid, laid_of}
use Rattle.mark.specs.Words.{ops}
use Rattle.propagate.specs.Roots.{clear_lists}
use Rattle.mark_laws.specs.Apart.{Apart, apart, Order, order}
use Rattle.room_laws.specs.Tallies.{Ample}
use Rattle.room_laws.proofs.Tallies.{ample}
use Rattle.reach.specs.Cycle.{AllWhite}
use Rattle.atomic_laws.specs.Bodies.{Bodies, bodies}
use Rattle.sweep_step.specs.Cursor.{start, put_cursor}
use Rattle.sweep_step.specs.Sweeping.{sweep_strings, sweep_others}
use Rattle.accounts.specs.declared.Answer.{Answer}
use Rattle.accounts.specs.declared.Answer.TheVariants.{Ended, Handed, Busy}
use Rattle.accounts.specs.Accounts.{memory_of, update_threshold, handed}
use Rattle.step.specs.declared.Single.{Single}
use Rattle.step.specs.declared.Single.TheVariants.{Cost, Out}
use Rattle.step.specs.Step.{start_cycle, propagate_step, costs, in_bytes, end_cycle, finalized, finalize_step, single_step}
use Rattle.cycle_laws.specs.Singles.{singles, singles_last, start_step, started_phase}
use Rattle.sweep_laws.specs.Places.{Rows, rows}
use Rattle.sweep_laws.specs.Turns.{Arenas, SweepDone}
use Rattle.sweep_laws.proofs.Turns.{sweep_done}
use Rattle.sweep_laws.specs.Repaints.{repainted_keeps}
use Rattle.sweep_laws.specs.Mixtures.{Outcome, Going, paused, marking, sweeping, Past}
use Rattle.sweep_laws.proofs.Mixtures.{past_store, past_freed}
use Rattle.sweep_laws.proofs.Finalizes.{finalize_step_lem, end_phase, past_step}
use Rattle.pace.specs.Pace.{steps_most, on_step, driven_for, driven, on_half, over, full_second, full_first, gave_up}
use Rattle.pace_laws.specs.Budgets.{State, Awake, state_awake}
use Rattle.pace_laws.specs.Ends.{sweep_most, queue_most, Done, G}
use Rattle.pace_laws.proofs.Ends.{start as start_left, end_step, awake_some, awake_first, pause_rules}
use Rattle.steps.specs.Steps.{full_in}
use Rattle.full_laws.specs.Calm.{Calm, calm_put, calm_lists, calm_whites, calm_based}
use Rattle.full_laws.specs.Idle.{step_idle}

-- a single step that hands nothing out
abbrev Costs : Single → Type 0
Costs (Cost c) = Unit {0}
Costs (Out r v) = ⊥

-- Before Finalize a single step hands nothing out.
pub cost_step : (l : Lay) (h : Heap) → at h.words PHASE ≤ 3 → Costs (single_step l h).0
unfolding single_step
cost_step l h p = go (ℕ_discrete n 0) (ℕ_discrete n 1) (ℕ_discrete n 2)
  where
    n : ℕ
    n = at h.words PHASE

    A : Single × Heap
    A = (Cost 0, heap (start_cycle l h.words) h.bytes)

    B : Single × Heap
    B = costs (propagate_step l h.bytes h.words) h.bytes

    C : Single × Heap
    C = (Cost 10, sweep_strings l h)

    D : Single × Heap
    D = (Cost 800, sweep_others l h)

    E : Single × Heap
    E = in_bytes (finalize_step l h.words) h.bytes

    T : Single × Heap → Type 0
    T x = Costs x.0

    go : Dec (at h.words PHASE ≡ 0) → Dec (at h.words PHASE ≡ 1) → Dec (at h.words PHASE ≡ 2) → T (single_step l h)
    go (yes e) d f = subst T (eq_yes (at h.words PHASE) 0 A _ A e refl) tt
    go (no e) (yes d) f = subst T (eq_no (at h.words PHASE) 0 A _ B e (eq_yes (at h.words PHASE) 1 B _ B d refl)) tt
    go (no e) (no d) (yes f) = subst T (eq_no (at h.words PHASE) 0 A _ C e (eq_no (at h.words PHASE) 1 B _ C d (eq_yes (at h.words PHASE) 2 C _ C f refl))) tt
    go (no e) (no d) (no f) =
        subst T (eq_no (at h.words PHASE) 0 A _ D e (eq_no (at h.words PHASE) 1 B _ D d (eq_no (at h.words PHASE) 2 C _ D f (eq_yes (at h.words PHASE) 3 D E D (omega (arith, p, e, d, f)) refl)))) tt

-- Nothing is driven where the phase is at most `end`,
driven_stop : (n : ℕ) (l : Lay) (kind end : ℕ) (h : Heap) → at h.words PHASE ≤ end → driven_for n l kind end h ≡ (None, h)
unfolding driven_for
driven_stop zero l kind end h p = refl
driven_stop (suc n) l kind end h p = sym (le_yes (at h.words PHASE) end (None, h) _ (None, h) p refl)

-- and k single steps are made where the first k states are above it and none hands out.
driven_runs : (n k : ℕ) (l : Lay) (kind end : ℕ) (h : Heap) → k ≤ n → ((i : ℕ) → i < k → (end < at (singles l i h).words PHASE) × Costs (single_step l (singles l i h)).0) → at (singles l k h).words PHASE ≤ end
    → driven_for n l kind end h ≡ (None, singles l k h)
unfolding singles driven_for
driven_runs n zero l kind end h f g p = driven_stop n l kind end h p
driven_runs zero (suc k) l kind end h f g p = absurd (let z : ⊥ = omega (arith, f) in z)
driven_runs (suc n) (suc k) l kind end h f g p = first (driven_runs n k l kind end (single_step l h).1 (omega (arith, f)) (λ i q. g (suc i) (omega (arith, q))) p)
  where
    stepped : (x : Single × Heap) → Costs x.0 → on_step kind x (λ (y : Heap). driven_for n l kind end y) ≡ driven_for n l kind end x.1
    stepped (Cost c, y) s = refl
    stepped (Out r v, y) s = absurd s

    first : driven_for n l kind end (single_step l h).1 ≡ (None, singles l k (single_step l h).1) → driven_for (suc n) l kind end h ≡ (None, singles l k (single_step l h).1)
    first rest =
        let q = g 0 (omega arith) in
        sym (le_no (at h.words PHASE) end (None, h) _ (None, singles l k (single_step l h).1) q.0 (sym (stepped (single_step l h) q.1 ∙ rest)))

module _ (l : Lay) (ok : Laid l) (a : Apart l) (r : Rows l) (am : Ample l) (y : Bodies l) (w b : List ℕ) (long : l.words ≤ length w) (f : AllWhite l w) (none : length_of l.queue w ≡ 0)
    (v : Arenas l w) (pause : at w PHASE ≡ 0) where
  abbrev o : Order l
  o = order l ok a

  -- What is under way is given up: the lists are emptied, the cursor is at the first string, the phase SweepString.
  abbrev w₀ : List ℕ
  w₀ = put_cursor start (put PHASE 2 (clear_lists (ops l) w))

  gave_up_lem : gave_up l w ≡ w₀
  unfolding gave_up
  gave_up_lem = sym (le_yes (at w PHASE) 1 w₀ w w₀ (omega (arith, pause)) refl)

  calm₀ : Calm l w w₀
  calm₀ =
      calm_put l ok a CURSOR_SLOT (omega arith) (omega arith) (λ e. omega (arith, e)) 0
      (calm_put l ok a CURSOR_ARENA (omega arith) (omega arith) (λ e. omega (arith, e)) 0
      (calm_put l ok a PHASE (omega arith) (omega arith) (λ e. omega (arith, e)) 2 (calm_lists l ok a w long)))

  -- words that differ so little are as long
  calm_room : {u : List ℕ} → Calm l w u → 91 ≤ length u
  calm_room s = omega (arith, long, s.long, o.words, o.header, a)

  phase₀ : at w₀ PHASE ≡ 2
  phase₀ =
      get_or-set_other (put CURSOR_ARENA 0 (put PHASE 2 (clear_lists (ops l) w))) CURSOR_SLOT PHASE 0 0 (λ e. omega (arith, e))
      ∙ get_or-set_other (put PHASE 2 (clear_lists (ops l) w)) CURSOR_ARENA PHASE 0 0 (λ e. omega (arith, e))
      ∙ get_or-set_same (clear_lists (ops l) w) PHASE 2 0 (omega (arith, calm_room (calm_lists l ok a w long)))

  cursor₀ : at w₀ CURSOR_SLOT ≡ 0
  cursor₀ = get_or-set_same (put CURSOR_ARENA 0 (put PHASE 2 (clear_lists (ops l) w))) CURSOR_SLOT 0 0
      (omega (arith, calm_room (calm_put l ok a CURSOR_ARENA (omega arith) (omega arith) (λ e. omega (arith, e)) 0 (calm_put l ok a PHASE (omega arith) (omega arith) (λ e. omega (arith, e)) 2 (calm_lists l ok a w long)))))

  abbrev h₀ : Heap
  h₀ = heap w₀ b

  -- The sweep of what is so.
  d : (v₀ : Arenas l w₀) → SweepDone l h₀ v₀
  d v₀ =
      let g = calm_whites l ok a calm₀ f in
      sweep_done l ok a r h₀ v₀ (omega (arith, long, calm₀.long)) g.low g.high phase₀ cursor₀

  v₀ : Arenas l w₀
  v₀ k i = (repainted_keeps l ok a r (calm_based l ok a calm₀ r b f none).paint k i (v k i)).0

  abbrev m : ℕ
  m = (d v₀).steps

  -- each state of it
  idle : (i : ℕ) → i ≤ m → Calm l w (singles l i h₀).words × ((singles l i h₀).bytes ≡ b) × ((at (singles l i h₀).words PHASE ≡ 2) ⊎ ((at (singles l i h₀).words PHASE ≡ 3) ⊎ (at (singles l i h₀).words PHASE ≡ 4)))
  unfolding singles
  idle zero p = first
    where
      first : Calm l w (singles l 0 h₀).words × ((singles l 0 h₀).bytes ≡ b) × ((at (singles l 0 h₀).words PHASE ≡ 2) ⊎ ((at (singles l 0 h₀).words PHASE ≡ 3) ⊎ (at (singles l 0 h₀).words PHASE ≡ 4)))
      first = (calm₀, refl, inl phase₀)
  idle (suc i) p = next (idle i (omega (arith, p)))
    where
      j : ℕ
      j = i + 1

      e : singles l (suc i) h₀ ≡ (single_step l (singles l i h₀)).1
      e = let q : suc i ≡ i + 1 = omega arith in ap (λ (n : ℕ). singles l n h₀) q ∙ singles_last l i h₀

      T : Heap → Type 0
      T g = Calm l w g.words × (g.bytes ≡ b) × ((at g.words PHASE ≡ 2) ⊎ ((at g.words PHASE ≡ 3) ⊎ (at g.words PHASE ≡ 4)))

      next : T (singles l i h₀) → T (singles l (suc i) h₀)
      next (c, k, q) =
          let s = step_idle l ok a w long f (singles l i h₀) c (⊎_elim (λ z. inl z) (λ z. ⊎_elim (λ x. inr x) (λ x. absurd ((d v₀).first i (omega (arith, p)) x)) z) q) in
          subst T (sym e) (s.0, s.1 ∙ k, s.2)

  -- The heap at Finalize, and the end of that cycle.
  abbrev h₁ : Heap
  h₁ = singles l m h₀

  abbrev u : List ℕ
  u = end_cycle h₁.words

  ended : single_step l h₁ ≡ (Cost 0, heap u h₁.bytes)
  unfolding finalize_step
  ended = finalize_step_lem l h₁ (d v₀).finalize ∙ ap (λ (x : Option Item × List ℕ). in_bytes (finalized l x) h₁.bytes) (pop_none l.queue h₁.words (calm_based l ok a (idle m (omega arith)).0 r b f none).queue)

  calm₁ : Calm l w u
  calm₁ =
      calm_put l ok a (DEBT + 1) (omega arith) (omega arith) (λ e. omega (arith, e)) _
      (calm_put l ok a DEBT (omega arith) (omega arith) (λ e. omega (arith, e)) _
      (calm_put l ok a PHASE (omega arith) (omega arith) (λ e. omega (arith, e)) 0 (idle m (omega arith)).0))

  after : singles l (m + 1) h₀ ≡ heap u b
  after = singles_last l m h₀ ∙ ap (λ (x : Single × Heap). x.1) ended ∙ ap (λ (x : List ℕ). heap u x) (idle m (omega arith)).1

  phase₁ : at u PHASE ≡ 0
  phase₁ = end_phase h₁.words (calm_room (idle m (omega arith)).0)

  above : (n : ℕ) → ((n ≡ 2) ⊎ ((n ≡ 3) ⊎ (n ≡ 4))) → 1 < n
  above n (inl e) = omega (arith, e)
  above n (inr (inl e)) = omega (arith, e)
  above n (inr (inr e)) = omega (arith, e)

  -- So the first half does nothing but that.
  first_half : driven l 4 1 h₀ ≡ (None, heap u b)
  unfolding driven
  first_half =
      driven_runs (steps_most l) (m + 1) l 4 1 h₀ (omega (arith, (d v₀).few)) steps (subst (λ (x : Heap). at x.words PHASE ≤ 1) (sym after) (omega (arith, phase₁)))
      ∙ ap (λ (x : Heap). (None, x)) after
    where
      steps : (i : ℕ) → i < m + 1 → (1 < at (singles l i h₀).words PHASE) × Costs (single_step l (singles l i h₀)).0
      steps i p = go (ℕ_discrete i m)
        where
          s : Calm l w (singles l i h₀).words × ((singles l i h₀).bytes ≡ b) × ((at (singles l i h₀).words PHASE ≡ 2) ⊎ ((at (singles l i h₀).words PHASE ≡ 3) ⊎ (at (singles l i h₀).words PHASE ≡ 4)))
          s = idle i (omega (arith, p))

          three : (n : ℕ) → n ≢ 4 → ((n ≡ 2) ⊎ ((n ≡ 3) ⊎ (n ≡ 4))) → n ≤ 3
          three n z (inl e) = omega (arith, e)
          three n z (inr (inl e)) = omega (arith, e)
          three n z (inr (inr e)) = absurd (z e)

          go : Dec (i ≡ m) → (1 < at (singles l i h₀).words PHASE) × Costs (single_step l (singles l i h₀)).0
          go (yes e) = (above (at (singles l i h₀).words PHASE) s.2, subst (λ n. Costs (single_step l (singles l n h₀)).0) (sym e) (subst (λ (x : Single × Heap). Costs x.0) (sym ended) tt))
          go (no e) = (above (at (singles l i h₀).words PHASE) s.2, cost_step l (singles l i h₀) (three (at (singles l i h₀).words PHASE) ((d v₀).first i (omega (arith, p, e))) s.2))

  abbrev Q : Heap → Type 0
  Q h = Past l ok a r am y w b long f none v h

  -- the words that the ends and a hand-out write
  past_cycle : (u c : List ℕ) → Q (heap u c) → Q (heap (update_threshold u) c)
  unfolding update_threshold
  past_cycle u c s =
      past_store l ok a r am y w b long f none v (THRESHOLD + 1) (omega arith) (omega arith) _ _
      (past_store l ok a r am y w b long f none v THRESHOLD (omega arith) (omega arith) _ _
      (past_store l ok a r am y w b long f none v TOTAL (omega arith) (omega arith) _ (heap u c) s))

  past_handed : (kind : ℕ) (x : UdRef) (left : ℕ) (u c : List ℕ) → Q (heap u c) → Q (heap (handed kind x left u) c)
  unfolding handed put_handle
  past_handed kind x left u c s =
      past_store l ok a r am y w b long f none v (REMAINING + 1) (omega arith) (omega arith) _ _
      (past_store l ok a r am y w b long f none v REMAINING (omega arith) (omega arith) _ _
      (past_store l ok a r am y w b long f none v (OUT + 1) (omega arith) (omega arith) _ _
      (past_store l ok a r am y w b long f none v OUT (omega arith) (omega arith) _ _
      (past_store l ok a r am y w b long f none v INTERRUPTED (omega arith) (omega arith) _ (heap u c) s))))

  -- The second half: a cycle, to Pause or to where a finalizer is handed out.
  abbrev Came : Option (UdRef × Value) × Heap → Type 0
  Came (None, h) = (at h.words PHASE ≡ 0) × Q h
  Came (Some (x, z), h) = Q h

  abbrev Up : ℕ → Heap → Type 0
  Up k h = Awake l (G l ok a r am y w b long f none v (queue_most l) k) (Done l ok a r am y w b long f none v k) h

  abbrev St : ℕ → Heap → Type 0
  St k h = State l (G l ok a r am y w b long f none v (queue_most l) k) (Done l ok a r am y w b long f none v k) h

  -- under way the phase is before Finalize
  going_low : {h : Heap} → Going l ok a r am y w b long f none v h → at h.words PHASE ≤ 3
  going_low (paused x e s p) = low (ap (λ (g : Heap). at g.words PHASE) e ∙ p)
    where
      low : {n : ℕ} → n ≡ 0 → n ≤ 3
      low e = omega (arith, e)
  going_low (marking x e s) = low (ap (λ (g : Heap). at g.words PHASE) e ∙ s.phase)
    where
      low : {n : ℕ} → n ≡ 1 → n ≤ 3
      low e = omega (arith, e)
  going_low {h} (sweeping h₀ x j n i s) = go (ℕ_discrete j 0)
    where
      go : Dec (j ≡ 0) → at h.words PHASE ≤ 3
      go (yes e) = omega (arith, (s.strings e).0)
      go (no e) = omega (arith, (s.others (omega (arith, e)) i).0)

  drive : (n k : ℕ) (h : Heap) → Up k h → k < 80 * (n + 1) → Came (driven_for n l 5 0 h)
  unfolding driven_for
  drive zero k h s p = absurd (let z : ⊥ = omega (arith, p, awake_some l ok a r am y w b long f none v k h s) in z)
  drive (suc n) k h s p =
      subst Came (turn (awake s)) (stepped (single_step l h) (state) (out s) (λ g t. drive n (k - 80) g t (omega (arith, p, awake_some l ok a r am y w b long f none v k h s))))
    where
      awake : Up k h → at h.words PHASE ≢ 0
      awake (inl t) = t.1
      awake (inr t) = λ e. omega (arith, e, t.1)

      state : St (k - 80) (single_step l h).1
      state = end_step l ok a r am y w b long f none v (k - 80) h (awake_first l ok a r am y w b long f none v k h s)

      turn : at h.words PHASE ≢ 0 → on_step 5 (single_step l h) (λ (x : Heap). driven_for n l 5 0 x) ≡ driven_for (suc n) l 5 0 h
      turn z = le_no (at h.words PHASE) 0 (None, h) _ (on_step 5 (single_step l h) (λ (x : Heap). driven_for n l 5 0 x)) (omega (arith, z)) refl

      -- a hand-out is in Finalize, so past the sweep
      out : Up k h → Costs (single_step l h).0 ⊎ Q (single_step l h).1
      out (inl t) = inl (cost_step l h (going_low t.0.0))
      out (inr t) = inr (past_step l ok a r am y w b long f none v h t.0.0 t.1)

      stepped : (x : Single × Heap) → St (k - 80) x.1 → Costs x.0 ⊎ Q x.1 → ((g : Heap) → Up (k - 80) g → Came (driven_for n l 5 0 g)) → Came (on_step 5 x (λ (g : Heap). driven_for n l 5 0 g))
      stepped (Out q z, g) t c rest = ⊎_elim (λ e. absurd e) (λ e. past_handed 5 q 0 g.words g.bytes e) c
      stepped (Cost c, g) t e rest = go (ℕ_discrete (at g.words PHASE) 0) t
        where
          go : Dec (at g.words PHASE ≡ 0) → St (k - 80) g → Came (driven_for n l 5 0 g)
          go (no z) t = rest g (state_awake l _ _ (pause_rules l ok a r am y w b long f none v (k - 80)) t z)
          go (yes z) (inl t) = absurd (t.1 z)
          go (yes z) (inr t) = subst Came (sym (driven_stop n l 5 0 g (omega (arith, z)))) (z, t.0)

  -- the definitions of specs/Full.antt, for these
  abbrev Result : Fallible Answer Refusal × Heap → Type 0
  Result = Rattle.full_laws.specs.Full.Result l ok a r am y w b long f none v pause

  second_half : Result (full_second l (heap (start_cycle l u) b))
  unfolding full_second driven update_threshold
  second_half = go (driven l 5 0 (heap (start_cycle l u) b)) (drive (steps_most l) M (heap (start_cycle l u) b) up (omega arith))
    where
      M : ℕ
      M = (sweep_most l + queue_most l) - 80

      up : Up M (heap (start_cycle l u) b)
      up =
          let u_long : l.words ≤ length u = omega (arith, long, calm₁.long) in
          let q : M + 80 ≡ sweep_most l + queue_most l = omega arith in
          state_awake l _ _ (pause_rules l ok a r am y w b long f none v M)
          (subst (St M) (start_step l u b phase₁)
          (end_step l ok a r am y w b long f none v M (heap u b) (inl (start_left l ok a r am y w b long f none v (queue_most l) (M + 80) u (calm_based l ok a calm₁ r b f none) phase₁ (omega (arith, q))))))
          (λ z. omega (arith, z, (started_phase l ok a b u u_long).1))

      threshold : (x : List ℕ) → at x PHASE ≡ 0 → at (update_threshold x) PHASE ≡ 0
      threshold x e =
          get_or-set_other (put THRESHOLD _ (put TOTAL (memory_of x) x)) (THRESHOLD + 1) PHASE _ 0 (λ z. omega (arith, z))
          ∙ get_or-set_other (put TOTAL (memory_of x) x) THRESHOLD PHASE _ 0 (λ z. omega (arith, z))
          ∙ get_or-set_other x TOTAL PHASE (memory_of x) 0 (λ z. omega (arith, z))
          ∙ e

      go : (x : Option (UdRef × Value) × Heap) → Came x → Result (on_half x (over update_threshold (Ok Ended)))
      go (None, h) s = (past_cycle h.words h.bytes s.1, inl (refl, threshold h.words s.0))
      go (Some (q, z), h) s = (s, inr (q, z, refl))

  -- A full collection from Pause.
  pub full_result : at w INTERRUPTED ≡ 0 → Result (full_in l (heap w b))
  unfolding full_in full_first
  full_result e = subst Result (sym whole) second_half
    where
      whole : full_in l (heap w b) ≡ full_second l (heap (start_cycle l u) b)
      whole =
          ap (λ (n : ℕ). cond (ltb 0 n) (Ok Busy, heap w b) (full_first l (heap (gave_up l w) b))) e
          ∙ ap (λ (x : List ℕ). full_first l (heap x b)) gave_up_lem
          ∙ ap (λ (x : Option (UdRef × Value) × Heap). on_half x (λ (g : Heap). full_second l (heap (start_cycle l g.words) g.bytes))) first_half

-- For the layout of any sizes within their ranges.
module _ (s : Sizes) (h : SizesOk s) (w b : List ℕ) (long : (lay_of s).words ≤ length w) (wide : (lay_of s).bytes ≤ length b) (pause : at w PHASE ≡ 0) (f : AllWhite (lay_of s) w)
    (none : length_of (lay_of s).queue w ≡ 0) (v : Arenas (lay_of s) w) where
  abbrev x : Fallible Answer Refusal × Heap
  x = full_in (lay_of s) (heap w b)

  -- A full collection from Pause, none being out: it ends at Pause or hands a finalizer out, and the slots freed by then are exactly the
  -- occupied ones that are neither kept nor spared, each once.
  pub planned_full : at w INTERRUPTED ≡ 0
      → Outcome (lay_of s) w b v (full_in (lay_of s) (heap w b)).1 × (((x.0 ≡ Ok Ended) × (at x.1.words PHASE ≡ 0)) ⊎ ((q : UdRef) × (z : Value) × (x.0 ≡ Ok (Handed q z))))
  planned_full e =
      let c = full_result (lay_of s) (laid_of s h) (apart s) (rows s) (ample s) (bodies s) w b long f none v pause e in
      (past_freed (lay_of s) (laid_of s h) (apart s) (rows s) (ample s) (bodies s) w b long f none v wide (full_in (lay_of s) (heap w b)).1 c.0, c.1)
