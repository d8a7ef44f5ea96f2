-- The six calls that step keep the state. Assumes nothing.
--     gave_free         marking that was under way is given up
--     single_keeps, step_keeps, auto_keeps, check_keeps, full_keeps, finish_keeps     the calls
use Rattle.std.specs.Prelude.{◌≡◌, Bool, ◌≢◌, ℕ, ◌+◌, ◌≤◌, ltb, ℤ, length, Err, Result}
use Rattle.std.proofs.Math.Path.{refl}
use Rattle.std.proofs.Common.{sym, ap, ◌∙◌, true≢false, ⊎_elim, arith, lt-ltb}
use Rattle.std.proofs.Math.Bool.{true, false, cond}
use mathlib.Core.List.{List, [], ◌∷◌}
use Rattle.std.proofs.Math.Decide.{ℕ_discrete}
use Rattle.base.specs.Words.{at, put, get64}
use Rattle.base.specs.Heap.{Heap, heap}
use Rattle.base.specs.declared.Refusal.{Refusal}
use Rattle.arena_laws.specs.Words.{puts_length, puts_far, puts_at}
use Rattle.layout.specs.declared.Lay.{Lay}
use Rattle.layout.specs.Places.{PROTOTYPES, DAMAGE, PHASE, WHITE, CURSOR_ARENA, CURSOR_SLOT, ESTIMATE, TOTAL, THRESHOLD, INTERRUPTED, REMAINING, STEPMUL}
use Rattle.layout.specs.Layout.{lay_of}
use Rattle.laid.specs.Laid.{Laid}
use Rattle.mark.specs.Words.{arena_of, ops}
use Rattle.propagate.specs.Roots.{clear_lists}
use Rattle.pacing.specs.Pacing.{budget_of, automatic_budget}
use Rattle.sweep_step.specs.Cursor.{start, put_cursor}
use Rattle.accounts.specs.declared.Answer.{Answer}
use Rattle.accounts.specs.Accounts.{grown, taken_back, after_cost}
use Rattle.step.specs.declared.Single.{Single}
use Rattle.step.specs.declared.Single.TheVariants.{Cost, Out}
use Rattle.step.specs.Step.{single_step}
use Rattle.pace.specs.Pace.{budgeted, gave_up}
use Rattle.steps.specs.Steps.{is_out, stepped, single_in, budget_in, auto_in, is_due, check_in, full_in, steps_on, resumed, succeeded, finish_in, gc_singlestep, gc_step, gc_step_auto, gc_check, full_gc, finish}
use Rattle.mark_laws.specs.Apart.{Apart, Order, order}
use Rattle.mark_laws.specs.Moves.{still}
use Rattle.mark_laws.specs.Changes.{first, counters, tops, past, Marked, moves_marked}
use Rattle.mark_laws.specs.RootLinks.{cleared_moves}
use Rattle.mark_laws.specs.Starts.{cleared_empty}
use Rattle.room_laws.specs.Tallies.{Ample}
use Rattle.atomic_laws.specs.Bodies.{Bodies}
use Rattle.sweep_laws.specs.Places.{Rows, top_is}
use Rattle.sweep_laws.specs.Repaints.{Repainted, repainted_then, repainted_keeps, marked_repainted, low_repainted}
use Rattle.state_laws.specs.State.{State, mains_same, sum_same, nested_same, lists_same, marked_state, sizes_same}
use Rattle.state_laws.specs.Rooms.{moves_lists}
use Rattle.state_laws.specs.Plains.{le_both, eq_both, cond_both, pacing, marks, Plainly, plainly_none, plainly_put, plainly_two, plain_state}
use Rattle.state_step_laws.specs.Marks.{Free}
use Rattle.state_step_laws.specs.Singles.{After}
use Rattle.state_step_laws.proofs.Singles.{single_after}
use Rattle.state_step_laws.proofs.Plains.{free_plain, grown_plain, handed_state, taken_free, taken_phase}
use Rattle.state_step_laws.proofs.Paces.{cost_state, on_turn_lem, budgeted_state, automatic_state, first_state, second_state}

-- none is out where the test says so
none_out : (n : ℕ) → ltb 0 n ≡ false → n ≡ 0
none_out n e = go (ℕ_discrete n 0)
  where
    go : Dec (n ≡ 0) → n ≡ 0
    go (yes z) = z
    go (no d) = absurd (true≢false (sym (lt-ltb 0 n (omega (arith, d))) ∙ e))

module _ (l : Lay) (ok : Laid l) (a : Apart l) (r : Rows l) (am : Ample l) (y : Bodies l) where
  abbrev o : Order l
  o = order l ok a

  -- Marking that was under way is given up: the sweep begins, without a flip.
  module _ (w b : List ℕ) (s : State l (heap w b)) (none : at w INTERRUPTED ≡ 0) where
    abbrev v : List ℕ
    v = clear_lists (ops l) w

    abbrev u : List ℕ
    u = put_cursor start (put PHASE 2 (clear_lists (ops l) w))

    m : Marked l w (clear_lists (ops l) w)
    m = moves_marked l ok a (cleared_moves l (still refl)) s.long

    v_long : 91 ≤ length (clear_lists (ops l) w)
    v_long = omega (arith, s.long, m.long, o.words, o.header, a)

    abbrev cs : List (ℕ × ℕ)
    cs = (CURSOR_SLOT, 0) ∷ (CURSOR_ARENA, 0) ∷ (PHASE, 2) ∷ []

    word : (x : ℕ) → x ≢ CURSOR_SLOT → x ≢ CURSOR_ARENA → x ≢ PHASE → at u x ≡ at v x
    word x d e f = puts_far cs v x (d, (e, (f, tt)))

    swept_free : Free l (heap u b) × (2 ≤ at u PHASE)
    swept_free =
        let phase : at u PHASE ≡ 2 = puts_at ((CURSOR_SLOT, 0) ∷ (CURSOR_ARENA, 0) ∷ []) PHASE 2 [] v ((λ z. omega (arith, z)), ((λ z. omega (arith, z)), tt)) (omega (arith, v_long)) in
        let slot : at u CURSOR_SLOT ≡ 0 = puts_at [] CURSOR_SLOT 0 ((CURSOR_ARENA, 0) ∷ (PHASE, 2) ∷ []) v tt (omega (arith, v_long)) in
        let now : at u WHITE ≡ at w WHITE = word WHITE (omega arith) (omega arith) (omega arith) ∙ m.kept WHITE (counters (omega arith) (omega arith)) in
        let out : at u INTERRUPTED ≡ 0 = word INTERRUPTED (omega arith) (omega arith) (omega arith) ∙ m.kept INTERRUPTED (counters (omega arith) (omega arith)) ∙ none in
        let long : length u ≡ length v = puts_length cs v in
        let last : Repainted l v u = low_repainted l ok a r long (λ q f g. word q (λ e. omega (arith, e, f)) (λ e. omega (arith, e, f)) (λ e. omega (arith, e, f))) in (
          record {
            state = record {
              sizes = ap lay_of (sizes_same w u (λ x h. word x (λ e. omega (arith, e, h)) (λ e. omega (arith, e, h)) (λ e. omega (arith, e, h)) ∙ m.kept x (first (omega (arith, h))))) ∙ s.sizes;
              long = omega (arith, s.long, m.long, long);
              wide = s.wide;
              whole = word DAMAGE (omega arith) (omega arith) (omega arith) ∙ cleared_mark ∙ s.whole;
              low = omega (arith, s.low, now);
              high = omega (arith, s.high, now);
              arenas = λ k g. (repainted_keeps l ok a r (repainted_then (marked_repainted l ok a r m) last) k g (s.arenas k g)).0;
              out = λ d. out;
              empty = λ f. absurd (let z : ⊥ = omega (arith, f, phase) in z);
              paid = λ f. absurd (let z : ⊥ = omega (arith, f, phase) in z);
              swept = λ d. record {
                arena = 0;
                slot = 0;
                most = omega arith;
                strings = λ e. (phase, slot);
                others = λ e f. absurd (let z : ⊥ = omega (arith, e) in z);
                ended = λ e. absurd (let z : ⊥ = omega (arith, e) in z);
                within = λ i. omega arith;
                white = λ j i f g h. absurd (⊎_elim (λ z. let t : ⊥ = omega (arith, z) in t) (λ z. let t : ⊥ = omega (arith, z.1) in t) h);
              };
              lists = lists_same ok a v u (λ x f g. word x (λ e. omega (arith, e, f)) (λ e. omega (arith, e, f)) (λ e. omega (arith, e, f))) (moves_lists l ok a (cleared_moves l (still refl)) s.long s.lists);
              mains = mains_same w u (λ x f g. word x (λ e. omega (arith, e, g)) (λ e. omega (arith, e, g)) (λ e. omega (arith, e, g)) ∙ m.kept x (first (omega (arith, g)))) s.mains;
              sum = sum_same l w u (word TOTAL (omega arith) (omega arith) (omega arith) ∙ m.kept TOTAL (counters (omega arith) (omega arith)))
                  (λ k g.
                  let t = top_is l ok a r k g in
                  word ((arena_of l k).top + 2) (λ e. omega (arith, e, t)) (λ e. omega (arith, e, t)) (λ e. omega (arith, e, t)) ∙ m.kept ((arena_of l k).top + 2) (tops (omega (arith, t)) (omega (arith, g, t)))) s.sum;
              nested = nested_same ok a s u (word PROTOTYPES (omega arith) (omega arith) (omega arith) ∙ m.kept PROTOTYPES (first (omega arith)))
                  (λ x f g. word x (λ e. omega (arith, e, f, o.header, a)) (λ e. omega (arith, e, f, o.header, a)) (λ e. omega (arith, e, f, o.header, a)) ∙ m.kept x (past (omega (arith, f, a))));
            };
            none = out;
          },
          omega (arith, phase),
        )
      where
        cleared_mark : at (clear_lists (ops l) w) DAMAGE ≡ at w DAMAGE
        cleared_mark = (cleared_empty l ok a w s.long).3

  pub gave_free : {w b : List ℕ} → Free l (heap w b) → Free l (heap (gave_up l w) b) × (2 ≤ at (gave_up l w) PHASE)
  unfolding gave_up
  gave_free {w} {b} c =
      le_both (λ (x : List ℕ). Free l (heap x b) × (2 ≤ at x PHASE)) (at w PHASE) 1 _ w (λ e. swept_free w b c.state c.none) (λ e. (c, omega (arith, e)))

  module _ (h : Heap) (s : State l h) where
    abbrev w : List ℕ
    w = h.words

    -- what a call's answer leaves
    abbrev T : Result Answer Refusal × Heap → Type 0
    T x = State l x.1

    free_of : is_out h.words ≡ false → Free l h
    free_of e = record { state = s; none = none_out (at h.words INTERRUPTED) e }

    stepped_state : (x : Single × Heap) → After l ok a r am y x → T (stepped x)
    stepped_state (Cost c, g) t = t.state
    stepped_state (Out z v, g) t = handed_state l ok a r 1 z 0 t.1 t.0.state

    -- A single step.
    pub single_keeps : State l (gc_singlestep h).1
    unfolding gc_singlestep single_in
    single_keeps =
        marked_state Err single_in l h s
        (cond_both T (is_out w) _ _ (λ e. s) (λ e. stepped_state (single_step l h) (single_after l ok a r am y h (free_of e))))

    -- A budgeted one.
    budget_state : (n : ℕ) (g : Heap) → State l g → T (budget_in n l g)
    unfolding budget_in
    budget_state n g t = cond_both T (is_out g.words) _ _ (λ e. t) (λ e. budgeted_state l ok a r am y 2 n g (record { state = t; none = none_out (at g.words INTERRUPTED) e }))

    pub step_keeps : (budget : ℤ) → State l (gc_step budget h).1
    unfolding gc_step
    step_keeps budget = marked_state Err (budget_in (budget_of budget)) l h s (budget_state (budget_of budget) h s)

    -- One by the debt.
    pub auto_keeps : State l (gc_step_auto h).1
    unfolding gc_step_auto auto_in
    auto_keeps =
        marked_state Err auto_in l h s
        (budget_state (automatic_budget (at (grown w) STEPMUL)) (heap (grown w) h.bytes) (plain_state l ok a r (grown_plain l ok a r w) s))

    -- A check: a step is due only where none is out.
    due_none : is_due h.words ≡ true → is_out h.words ≡ false
    unfolding is_due
    due_none e = go (is_out h.words) _ e
      where
        go : (b x : Bool) → cond b false x ≡ true → b ≡ false
        go true x z = absurd (true≢false (sym z))
        go false x z = refl

    pub check_keeps : State l (gc_check h).1
    unfolding gc_check check_in
    check_keeps = marked_state Err check_in l h s (cond_both T (is_due w) _ _ (λ e. automatic_state l ok a r am y 3 h (free_of (due_none e))) (λ e. s))

    -- A full collection.
    pub full_keeps : State l (full_gc h).1
    unfolding full_gc full_in
    full_keeps =
        marked_state Err full_in l h s
        (cond_both T (is_out w) _ _ (λ e. s)
        (λ e. let g = gave_free (free_of e) in first_state l ok a r am y (heap (gave_up l w) h.bytes) g.0 g.1))

  -- What goes on when a finalizer has ended with success.
  steps_on_lem : (kind left : ℕ) (h : Heap) → Free l h → State l (steps_on l kind left h).1
  unfolding steps_on
  steps_on_lem kind left h c =
      on_turn_lem l ok a r am y ((after_cost left 100 h.words).0, heap (after_cost left 100 h.words).1 h.bytes) (λ k g. budgeted l kind k g) (cost_state l ok a r am y left 100 c)
      (λ k g t. budgeted_state l ok a r am y kind k g t)

  resumed_state : (kind left : ℕ) (h : Heap) → Free l h → 2 ≤ at h.words PHASE → State l (resumed l kind left h).1
  unfolding resumed
  resumed_state kind left h c p =
      eq_both T kind 1 _ _ (λ e. c.state)
      (λ d. eq_both T kind 2 _ _ (λ e. steps_on_lem 2 left h c)
      (λ d. eq_both T kind 3 _ _ (λ e. steps_on_lem 3 left h c)
      (λ d. eq_both T kind 4 _ _ (λ e. first_state l ok a r am y h c p) (λ d. second_state l ok a r am y h c))))
    where
      T : Result Answer Refusal × Heap → Type 0
      T x = State l x.1

  -- Success writes the threshold and the estimate.
  succeeded_plain : (w : List ℕ) → Plainly l w (succeeded w)
  unfolding succeeded
  succeeded_plain w =
      plainly_put l ok a ESTIMATE _ (pacing (omega arith) (omega arith))
      (plainly_two l ok a THRESHOLD _ _ (pacing (omega arith) (omega arith)) (pacing (omega arith) (omega arith)) plainly_none)

  -- Finish. While a finalizer is out the phase is Finalize.
  pub finish_keeps : (done : Bool) (h : Heap) → State l h → State l (finish done h).1
  unfolding finish finish_in
  finish_keeps done h s =
      marked_state Err (finish_in done) l h s
      (eq_both T (at h.words INTERRUPTED) 0 _ _ (λ e. s)
      (λ d. cond_both T done _ _
      (λ e. resumed_state (at h.words INTERRUPTED) (get64 h.words REMAINING) (heap (succeeded (taken_back h.words)) h.bytes) (free_plain l ok a r (succeeded_plain (taken_back h.words)) back) (later d))
      (λ e. back.state)))
    where
      T : Result Answer Refusal × Heap → Type 0
      T x = State l x.1

      back : Free l (heap (taken_back h.words) h.bytes)
      back = taken_free l ok a r s

      four : at h.words INTERRUPTED ≢ 0 → at h.words PHASE ≡ 4
      four d = go (ℕ_discrete (at h.words PHASE) 4)
        where
          go : Dec (at h.words PHASE ≡ 4) → at h.words PHASE ≡ 4
          go (yes e) = e
          go (no e) = absurd (d (s.out e))

      later : at h.words INTERRUPTED ≢ 0 → 2 ≤ at (succeeded (taken_back h.words)) PHASE
      later d = omega (arith, four d, taken_phase l ok a r h.words, (succeeded_plain (taken_back h.words)).near.same PHASE (marks (omega arith) (omega arith)))
