-- The cycle ends, by the definitions of specs/Ends.antt. Assumes nothing.
--     calls_end, planned_end         calls enough end the sweep, and what is freed then is what is to be freed
--     calls_pause, planned_pause     calls enough come to Pause
--     planned_singles                single steps come to Pause, in a number that is linear in the sizes
use Rattle.std.specs.Prelude.{◌≡◌, refl, ◌⊎◌, length}
use Rattle.std.proofs.Common.{sym, subst, ◌∙◌, ⊎_elim, arith, get_or-set_other}
use Rattle.std.proofs.Math.Logic.{inl, inr}
use mathlib.Core.List.{List, [], ◌∷◌}
use Prim.Native.Nat.{ℕ, zero, suc, min, ◌+◌, ◌-◌, ◌*◌, ◌≤◌, ◌<◌}
use Rattle.std.proofs.Math.Decide.{ℕ_discrete}
use Rattle.base.specs.Ways.{if_eq, eq_yes, eq_no}
use Rattle.base.specs.Words.{at, put}
use Rattle.base.specs.Heap.{Heap, heap}
use Rattle.layout.specs.declared.Sizes.{Sizes}
use Rattle.layout.specs.declared.Lay.{Lay}
use Rattle.layout.specs.Sizes.{SizesOk}
use Rattle.layout.specs.Layout.{lay_of}
use Rattle.layout.specs.Places.{PHASE}
use Rattle.lists.specs.Lists.{length_of}
use Rattle.laid.specs.Laid.{Laid, laid_of}
use Rattle.mark_laws.specs.Apart.{Apart, apart}
use Rattle.room_laws.specs.Tallies.{Ample}
use Rattle.room_laws.proofs.Tallies.{ample}
use Rattle.room_laws.proofs.Queues.{queue_count}
use Rattle.reach.specs.Cycle.{AllWhite}
use Rattle.atomic_laws.specs.Bodies.{Bodies, bodies}
use Rattle.step.specs.Step.{single_step}
use Rattle.cycle_laws.specs.Singles.{singles}
use Rattle.sweep_laws.specs.Places.{Rows, rows}
use Rattle.sweep_laws.specs.Turns.{Arenas}
use Rattle.sweep_laws.specs.Mixtures.{Based, Outcome, paused}
use Rattle.sweep_laws.proofs.Mixtures.{based_none, going_phase, past_phase, past_store, past_freed}
use Rattle.sweep_laws.proofs.Finalizes.{past_step, past_less}
use Rattle.pace_laws.specs.Budgets.{Call, called, calls, State, Awake, Rules, state_awake, called_keeps, chosen, calls_freed}
use Rattle.pace_laws.specs.Lasting.{left_more, lasts_some, step_lasts, store_lasts}
use Rattle.pace_laws.specs.Ends.{Store, stores, until_pause, sweep_most, queue_most}

module _ (l : Lay) (ok : Laid l) (a : Apart l) (r : Rows l) (am : Ample l) (y : Bodies l) (w b : List ℕ) (long : l.words ≤ length w) (f : AllWhite l w) (none : length_of l.queue w ≡ 0)
    (v : Arenas l w) where
  -- the definitions of specs/Ends.antt, for these
  abbrev P : Heap → Type 0
  P = Rattle.pace_laws.specs.Ends.P l ok a r am y w b long f none v

  abbrev G : ℕ → ℕ → Heap → Type 0
  G = Rattle.pace_laws.specs.Ends.G l ok a r am y w b long f none v

  stored_phase : (p : ℕ) → 57 ≤ p → (n : ℕ) (u : List ℕ) → at (put p n u) PHASE ≡ at u PHASE
  stored_phase p g n u = get_or-set_other u p PHASE n 0 (λ e. omega (arith, e, g))

  -- At Pause all is left.
  pub start : (t m : ℕ) (u : List ℕ) → Based l w b u → at u PHASE ≡ 0 → sweep_most l + t ≤ m → G t m (heap u b)
  start t m u based pause h = (
    paused u refl based pause,
    record {
      pause = λ z. h;
      propagate = λ z. absurd (let k : ⊥ = omega (arith, z, pause) in k);
      strings = λ z. absurd (let k : ⊥ = omega (arith, z, pause) in k);
      others = λ z. absurd (let k : ⊥ = omega (arith, z, pause) in k);
      ended = λ z. absurd (let k : ⊥ = omega (arith, z, pause) in k);
    },
  )

  -- A step under way, where nothing is said of what is past.
  on_step_lem : (m : ℕ) (h : Heap) → G 0 (m + 80) h → State l (G 0 m) P (single_step l h).1
  on_step_lem m h s = ⊎_elim (λ z. inl z) (λ z. inr z.0) (step_lasts l ok a r am y w b long f none v 0 m h s)

  -- one less is no more
  fewer : (t m : ℕ) (h : Heap) → G t (m - 80) h → G t m h
  fewer t m h s = (s.0, left_more (omega arith) s.1)

  whole : (t m : ℕ) (h : Heap) → G t m h → G t ((m - 80) + 80) h
  whole t m h s = (s.0, left_more (omega (arith, lasts_some l ok a r am y w b long f none v t m h s)) s.1)

  sweep_rules : (m : ℕ) → Rules l (G 0 m) P (G 0 (m + 80))
  sweep_rules m = record {
    first = on_step_lem m;
    next = λ h s. ⊎_elim (λ g. ⊎_elim (λ z. inl (fewer 0 m (single_step l h).1 z.0, z.1)) (λ z. inr z) (on_step_lem (m - 80) h (whole 0 m h g.0)))
        (λ p. inr (past_step l ok a r am y w b long f none v h p.0 p.1)) s;
    phase = λ h p. ⊎_elim (λ z. inl z) (λ z. inr z.0) (past_phase l ok a r am y w b long f none v p);
    under = λ h g. going_phase l ok a r am y w b long f none v g.0;
    store_first = λ p g q n u c s. store_lasts l ok a r am y w b long f none v 0 p g q n (m + 80) u c s;
    store_going = λ p g q n u c s. store_lasts l ok a r am y w b long f none v 0 p g q n m u c s;
    store_past = λ p g q n u c s. past_store l ok a r am y w b long f none v p g q n (heap u c) s;
  }

  abbrev Swept : Heap → Type 0
  Swept h = (at h.words PHASE ≡ 4) ⊎ (at h.words PHASE ≡ 0)

  -- Enough calls end the sweep.
  end_on : (cs : List Call) (m : ℕ) (h : Heap) → G 0 m h → m < 80 * (length cs + 1) → Swept (calls l cs h)
  unfolding calls
  end_on [] m h s g = absurd (let z : ⊥ = omega (arith, g, lasts_some l ok a r am y w b long f none v 0 m h s) in z)
  end_on (c ∷ cs) m h s g =
      let k : ℕ = m - 80 in
      chosen l (G 0 k) P (sweep_rules k) Swept (called l c h) (calls l cs (called l c h)) (called_keeps l (G 0 k) P (sweep_rules k) c h (whole 0 m h s)) ((sweep_rules k).phase (called l c h))
      (λ t. end_on cs k (called l c h) t.0 (omega (arith, g, lasts_some l ok a r am y w b long f none v 0 m h s)))

  pub calls_end : at w PHASE ≡ 0 → (cs : List Call) → sweep_most l < 80 * (length cs + 1) → Swept (calls l cs (heap w b))
  calls_end pause cs h = end_on cs (sweep_most l) (heap w b) (start 0 (sweep_most l) w (based_none l ok a r am y w b long f none v) pause (omega arith)) h

  abbrev t : ℕ
  t = Rattle.pace_laws.specs.Ends.t l ok a r am y w b long f none v

  abbrev Done : ℕ → Heap → Type 0
  Done = Rattle.pace_laws.specs.Ends.Done l ok a r am y w b long f none v

  abbrev First : ℕ → Heap → Type 0
  First = Rattle.pace_laws.specs.Ends.First l ok a r am y w b long f none v

  pub end_step : (m : ℕ) (h : Heap) → First (m + 80) h → State l (G t m) (Done m) (single_step l h).1
  end_step m h (inl s) =
      ⊎_elim (λ z. inl z) (λ z. inr (z.0, λ e. most (at (single_step l h).1.words l.queue.count) z.2)) (step_lasts l ok a r am y w b long f none v t m h s)
    where
      most : (n : ℕ) → queue_most l ≤ m → 80 * (min n l.queue.room + 1) ≤ m
      most n h = omega (arith, h)
  end_step m h (inr (s, e)) = inr (past_step l ok a r am y w b long f none v h s.0 e, λ z. ⊎_elim (λ x. absurd (let k : ⊥ = omega (arith, x, z) in k)) (λ x. less (length_of l.queue (single_step l h).1.words) (length_of l.queue h.words) x.1 (s.1 e)) (past_less l ok a r am y w b long f none v h s.0 e))
    where
      less : (n k : ℕ) → n + 1 ≡ k → 80 * (k + 1) ≤ m + 80 → 80 * (n + 1) ≤ m
      less n k f g = omega (arith, f, g)

  done_fewer : (m : ℕ) (h : Heap) → Done (m - 80) h → Done m h
  done_fewer m h s = (s.0, λ e. le (80 * (length_of l.queue h.words + 1)) (s.1 e))
    where
      le : (n : ℕ) → n ≤ m - 80 → n ≤ m
      le n f = omega (arith, f)

  done_some : (m : ℕ) (h : Heap) → Done m h → at h.words PHASE ≡ 4 → 80 ≤ m
  done_some m h s e = le (length_of l.queue h.words) (s.1 e)
    where
      le : (n : ℕ) → 80 * (n + 1) ≤ m → 80 ≤ m
      le n f = omega (arith, f)

  pub awake_some : (m : ℕ) (h : Heap) → Awake l (G t m) (Done m) h → 80 ≤ m
  awake_some m h (inl s) = lasts_some l ok a r am y w b long f none v t m h s.0
  awake_some m h (inr s) = done_some m h s.0 s.1

  pub awake_first : (m : ℕ) (h : Heap) → Awake l (G t m) (Done m) h → First ((m - 80) + 80) h
  awake_first m h (inl s) = inl (whole t m h s.0)
  awake_first m h (inr s) = inr ((s.0.0, λ e. le (80 * (length_of l.queue h.words + 1)) (s.0.1 e) (done_some m h s.0 s.1)), s.1)
    where
      le : (n : ℕ) → n ≤ m → 80 ≤ m → n ≤ (m - 80) + 80
      le n f g = omega (arith, f, g)

  done_store : (m p : ℕ) → 57 ≤ p → p < 69 → (n : ℕ) (u c : List ℕ) → Done m (heap u c) → Done m (heap (put p n u) c)
  done_store m p g q n u c s = (
    past_store l ok a r am y w b long f none v p g q n (heap u c) s.0,
    λ e. subst (λ x. 80 * (min x l.queue.room + 1) ≤ m) (sym (get_or-set_other u p l.queue.count n 0 (λ z. omega (arith, z, q, queue_count l ok)))) (s.1 (sym (stored_phase p g n u) ∙ e)),
  )

  pub pause_rules : (m : ℕ) → Rules l (G t m) (Done m) (First (m + 80))
  pause_rules m = record {
    first = end_step m;
    next = λ h s. ⊎_elim (λ z. inl (fewer t m (single_step l h).1 z.0, z.1)) (λ z. inr (done_fewer m (single_step l h).1 z)) (end_step (m - 80) h (awake_first m h s));
    phase = λ h p. ⊎_elim (λ z. inl z) (λ z. inr z.0) (past_phase l ok a r am y w b long f none v p.0);
    under = λ h g. going_phase l ok a r am y w b long f none v g.0;
    store_first = λ p g q n u c s. ⊎_elim (λ z. inl (store_lasts l ok a r am y w b long f none v t p g q n (m + 80) u c z)) (λ z. inr (done_store (m + 80) p g q n u c z.0, stored_phase p g n u ∙ z.1)) s;
    store_going = λ p g q n u c s. store_lasts l ok a r am y w b long f none v t p g q n m u c s;
    store_past = done_store m;
  }

  -- stores between two calls
  first_stores : (ss : List Store) (m : ℕ) (u c : List ℕ) → First (m + 80) (heap u c) → First (m + 80) (heap (stores ss u) c)
  unfolding stores
  first_stores [] m u c s = s
  first_stores (x ∷ ss) m u c s = first_stores ss m (put x.0 x.3 u) c ((pause_rules m).store_first x.0 x.1 x.2 x.3 u c s)

  abbrev Paused : Heap → Type 0
  Paused = Rattle.pace_laws.specs.Ends.Paused l ok a r am y w b long f none v

  -- what a call leaves is at Pause, or can go on
  pausing : (m : ℕ) (g k : Heap) → State l (G t m) (Done m) g → (Awake l (G t m) (Done m) g → Paused k) → Paused (if_eq (at g.words PHASE) 0 g k)
  pausing m g k s rest = go (ℕ_discrete (at g.words PHASE) 0) s
    where
      go : Dec (at g.words PHASE ≡ 0) → State l (G t m) (Done m) g → Paused (if_eq (at g.words PHASE) 0 g k)
      go (no d) s = subst Paused (eq_no (at g.words PHASE) 0 g k k d refl) (rest (state_awake l (G t m) (Done m) (pause_rules m) s d))
      go (yes e) (inl s) = absurd (s.1 e)
      go (yes e) (inr s) = subst Paused (eq_yes (at g.words PHASE) 0 g k g e refl) (e, s.0)

  pause_on : (xs : List (List Store × Call)) (m : ℕ) (h : Heap) → First m h → 80 ≤ m → m < 80 * (length xs + 1) → Paused (until_pause l xs h)
  unfolding until_pause
  pause_on [] m h s g e = absurd (let z : ⊥ = omega (arith, g, e) in z)
  pause_on (x ∷ xs) m h s g e =
      let k : ℕ = m - 80 in
      let q : k + 80 ≡ m = omega (arith, g) in
      let u : Heap = called l x.1 (heap (stores x.0 h.words) h.bytes) in
      pausing k u (until_pause l xs u)
      (called_keeps l (G t k) (Done k) (pause_rules k) x.1 (heap (stores x.0 h.words) h.bytes) (first_stores x.0 k h.words h.bytes (subst (λ n. First n h) (sym q) s)))
      (λ z. pause_on xs k u (⊎_elim (λ z. inl z.0) (λ z. inr z) z) (awake_some k u z) (omega (arith, e, g)))

  -- Enough calls come to Pause,
  pub calls_pause : at w PHASE ≡ 0 → (xs : List (List Store × Call)) → sweep_most l + queue_most l < 80 * (length xs + 1) → Paused (until_pause l xs (heap w b))
  calls_pause pause xs h = pause_on xs (sweep_most l + queue_most l) (heap w b) (inl (start t (sweep_most l + queue_most l) w (based_none l ok a r am y w b long f none v) pause (omega arith))) (omega arith) h

  -- and so do single steps.
  singles_on : (k m : ℕ) (h : Heap) → First m h → 80 ≤ m → m < 80 * (k + 1) → (n : ℕ) × (80 * n ≤ m) × Paused (singles l n h)
  unfolding singles
  singles_on zero m h s g e = absurd (let z : ⊥ = omega (arith, g, e) in z)
  singles_on (suc k) m h s g e = go (ℕ_discrete (at (single_step l h).1.words PHASE) 0) (end_step j h (subst (λ n. First n h) (sym q) s)) (λ x z. singles_on k j (single_step l h).1 x z (omega (arith, e, g)))
    where
      j : ℕ
      j = m - 80

      q : j + 80 ≡ m
      q = omega (arith, g)

      next : First j (single_step l h).1 → 80 ≤ j → (First j (single_step l h).1 → 80 ≤ j → (n : ℕ) × (80 * n ≤ j) × Paused (singles l n (single_step l h).1)) → (n : ℕ) × (80 * n ≤ m) × Paused (singles l n h)
      next x z rest = let c = rest x z in (suc c.0, omega (arith, c.1, q), c.2)

      go : Dec (at (single_step l h).1.words PHASE ≡ 0) → State l (G t j) (Done j) (single_step l h).1
          → (First j (single_step l h).1 → 80 ≤ j → (n : ℕ) × (80 * n ≤ j) × Paused (singles l n (single_step l h).1)) → (n : ℕ) × (80 * n ≤ m) × Paused (singles l n h)
      go (yes d) (inl x) rest = absurd (x.1 d)
      go (yes d) (inr x) rest = (1, omega (arith, g), (d, x.0))
      go (no d) x rest =
          let c = state_awake l (G t j) (Done j) (pause_rules j) x d in
          next (⊎_elim (λ z. inl z.0) (λ z. inr z) c) (awake_some j (single_step l h).1 c) rest

  pub singles_pause : at w PHASE ≡ 0 → (n : ℕ) × (80 * n ≤ sweep_most l + queue_most l) × Paused (singles l n (heap w b))
  singles_pause pause =
      singles_on (sweep_most l + queue_most l) (sweep_most l + queue_most l) (heap w b) (inl (start t (sweep_most l + queue_most l) w (based_none l ok a r am y w b long f none v) pause (omega arith))) (omega arith) (omega arith)

-- The theorems for the layout of any sizes within their ranges. Premises: from Pause, every occupied slot in the current white, the queue
-- empty and the six arenas well-formed.
module _ (s : Sizes) (h : SizesOk s) (w b : List ℕ) (long : (lay_of s).words ≤ length w) (wide : (lay_of s).bytes ≤ length b) (pause : at w PHASE ≡ 0) (f : AllWhite (lay_of s) w)
    (none : length_of (lay_of s).queue w ≡ 0) (v : Arenas (lay_of s) w) where
  abbrev l : Lay
  l = lay_of s

  -- Whatever calls are made, single, budgeted with any budgets or automatic: enough of them end the sweep, and what is freed then is
  -- exactly what is to be freed.
  pub planned_end : (c : Call) (cs : List Call) → sweep_most (lay_of s) < 80 * (length (c ∷ cs) + 1)
      → ((at (calls (lay_of s) (c ∷ cs) (heap w b)).words PHASE ≡ 4) ⊎ (at (calls (lay_of s) (c ∷ cs) (heap w b)).words PHASE ≡ 0)) × Outcome (lay_of s) w b v (calls (lay_of s) (c ∷ cs) (heap w b))
  planned_end c cs g =
      let e = calls_end l (laid_of s h) (apart s) (rows s) (ample s) (bodies s) w b long f none v pause (c ∷ cs) g in
      (e, calls_freed l (laid_of s h) (apart s) (rows s) (ample s) (bodies s) w b long f none v wide pause c cs e)

  -- And enough of them come to Pause again, also with finalizers handed out and finished in between.
  pub planned_pause : (xs : List (List Store × Call)) → sweep_most (lay_of s) + queue_most (lay_of s) < 80 * (length xs + 1)
      → (at (until_pause (lay_of s) xs (heap w b)).words PHASE ≡ 0) × Outcome (lay_of s) w b v (until_pause (lay_of s) xs (heap w b))
  planned_pause xs g =
      let e = calls_pause l (laid_of s h) (apart s) (rows s) (ample s) (bodies s) w b long f none v pause xs g in
      (e.0, past_freed l (laid_of s h) (apart s) (rows s) (ample s) (bodies s) w b long f none v wide (until_pause l xs (heap w b)) e.1)

  -- Single steps come to Pause.
  pub planned_singles : (n : ℕ) × (80 * n ≤ sweep_most (lay_of s) + queue_most (lay_of s)) × (at (singles (lay_of s) n (heap w b)).words PHASE ≡ 0) × Outcome (lay_of s) w b v (singles (lay_of s) n (heap w b))
  planned_singles =
      let e = singles_pause l (laid_of s h) (apart s) (rows s) (ample s) (bodies s) w b long f none v pause in
      (e.0, e.1, e.2.0, past_freed l (laid_of s h) (apart s) (rows s) (ample s) (bodies s) w b long f none v wide (singles l e.0 (heap w b)) e.2.1)
