-- A collection with other work on the words of pacing between its single steps, by the definitions of specs/Mixtures.antt. Assumes
-- nothing.
--     step_keeps        a single step goes on, or ends the sweep
--     store_keeps, past_store     a word of pacing may change at any time
--     past_same         what leaves the arenas keeps what is past
--     past_freed        what is freed then is exactly what is to be freed
use Rattle.std.specs.Prelude.{◌≡◌, refl, ◌⊎◌, ◌≢◌, ℕ, min, ◌+◌, ◌≤◌, ◌<◌}
use Rattle.std.proofs.Common.{sym, subst, ◌∙◌, inr, ⊎_elim, arith, length-set, get_or-set_other}
use Rattle.std.proofs.Math.Path.{ap}
use Rattle.std.proofs.Math.Logic.{inl}
use mathlib.Core.List.{List, Memᴰ}
use Rattle.std.proofs.Math.Decide.{ℕ_discrete, dec_lt}
use Rattle.std.proofs.Math.ListN.{length}
use Rattle.base.specs.Words.{at, put}
use Rattle.base.specs.Heap.{Heap, heap}
use Rattle.layout.specs.declared.Lay.{Lay}
use Rattle.layout.specs.Places.{PHASE, WHITE, CURSOR_ARENA, CURSOR_SLOT}
use Rattle.lists.specs.Lists.{damage, length_of}
use Rattle.laid.specs.Laid.{Laid}
use Rattle.mark.specs.Ops.{other_white}
use Rattle.mark.specs.Words.{arena_of, ops}
use Rattle.propagate.specs.Propagation.{propagate_one}
use Rattle.atomic.specs.Atomic.{atomic}
use Rattle.step.specs.Step.{start_cycle, single_step}
use Rattle.mark_laws.specs.Apart.{Apart, Order, order}
use Rattle.mark_laws.specs.Changes.{counters}
use Rattle.link_laws.specs.Roots.{root_links_same}
use Rattle.room_laws.specs.Tallies.{Ample}
use Rattle.room_laws.proofs.Queues.{queue_count}
use Rattle.reach.specs.Cycle.{AllWhite, advanced, advances}
use Rattle.reach.proofs.Exact.{advances_ok}
use Rattle.atomic_laws.specs.Bodies.{Bodies}
use Rattle.atomic_laws.proofs.Alikes.{alike_back, root_alike, kept_alike, spared_alike}
use Rattle.atomic_laws.proofs.Notings.{advances_noted}
use Rattle.cycle_laws.specs.Counters.{stored, Counter, phase_counter, stored_word, stored_shade, stored_alike, stored_ok, stored_noted, stored_white}
use Rattle.cycle_laws.specs.Singles.{start_step, gray_step, atomic_step, started_phase}
use Rattle.cycle_laws.specs.Collects.{frame_one, started_ok, started_noted}
use Rattle.sweep_laws.specs.Batches.{Same, clean_same}
use Rattle.sweep_laws.specs.Places.{Rows, low_same}
use Rattle.sweep_laws.specs.Turns.{Arenas, InQueue, Stage}
use Rattle.sweep_laws.proofs.Turns.{stage_first, stage_step}
use Rattle.sweep_laws.specs.Repaints.{repainted_then, low_repainted}
use Rattle.sweep_laws.specs.Collections.{Ready, ready_arenas}
use Rattle.sweep_laws.proofs.Collections.{ready_long, ready_low, ready_high, arena_freed, atomic_ready}
use Rattle.sweep_laws.specs.Mixtures.{Based, Marking, Outcome, marking, paused, sweeping, past}

-- a word of pacing
pub pacing_counter : (p : ℕ) → 57 ≤ p → p < 69 → Counter p
pacing_counter p f g = record { low = omega (arith, f); high = g; other = λ e. omega (arith, e, f) }

module _ (l : Lay) (ok : Laid l) (a : Apart l) (r : Rows l) (am : Ample l) (y : Bodies l) (w b : List ℕ) (long : l.words ≤ length w) (f : AllWhite l w) (none : length_of l.queue w ≡ 0)
    (v : Arenas l w) where
  abbrev o : Order l
  o = order l ok a

  pub based_none : Based l w b w
  based_none = record {
    paint = low_repainted l ok a r refl (λ q g h. refl);
    shades = λ x. refl;
    keeps = λ x. ((λ k. k), λ k. k);
    white = refl;
    mark = refl;
    whites = f;
    queue = none;
  }

  -- a store of the phase or of a word of pacing
  based_stored : (p : ℕ) → Counter p → (n : ℕ) {u : List ℕ} → Based l w b u → Based l w b (stored p n u)
  based_stored p t n {u} s =
      let like = stored_alike l ok a p t n u in
      let back = alike_back like in
      let one = frame_one l ok in
      record {
        paint = repainted_then s.paint (low_repainted l ok a r (length-set u p n) (λ q g h. stored_word p n u q (λ e. omega (arith, e, g, t.high))));
        shades = λ x. stored_shade l ok a p t n u x ∙ s.shades x;
        keeps = λ x. (
          (λ k. (s.keeps x).0 (⊎_elim (λ z. inl (kept_alike one b back x z)) (λ z. inr (spared_alike one b back x z)) k)),
          (λ k. ⊎_elim (λ z. inl (kept_alike one b like x z)) (λ z. inr (spared_alike one b like x z)) ((s.keeps x).1 k)),
        );
        white = stored_word p n u WHITE (λ e. t.other (sym e)) ∙ s.white;
        mark = stored_word p n u damage (λ e. omega (arith, e, t.low)) ∙ s.mark;
        whites = stored_white l ok a p t n s.whites;
        queue = ap (λ (k : ℕ). min k l.queue.room) (stored_word p n u l.queue.count (λ e. omega (arith, e, t.high, queue_count l ok))) ∙ s.queue;
      }

  based_long : {u : List ℕ} → Based l w b u → l.words ≤ length u
  based_long s = omega (arith, long, s.paint.long)

  -- What the atomic step leaves is what it leaves of the words w.
  ready_based : {u : List ℕ} {h : Heap} → Based l w b u → Ready l u b h → Ready l w b h
  ready_based {u} {h} s x = record {
    paint = repainted_then s.paint x.paint;
    bytes = x.bytes;
    white = x.white ∙ ap (λ (n : ℕ). other_white n) s.white;
    phase = x.phase;
    cursor = x.cursor;
    whole = x.whole ∙ s.mark;
    exact = λ q i.
        let k = x.exact q (subst (λ n. 1 ≤ n) (sym (s.shades q)) i) in
        ((λ d. (s.keeps q).0 (k.0 (λ z. d (z ∙ s.white)))), λ d z. k.1 ((s.keeps q).1 d) (z ∙ sym s.white));
  }

  -- a store of a word of pacing during Propagate
  marking_stored : (p : ℕ) → 57 ≤ p → p < 69 → (n : ℕ) {u : List ℕ} → Marking l w b u → Marking l w b (stored p n u)
  marking_stored p g h n {u} m =
      let t = pacing_counter p g h in
      let like = stored_alike l ok a p t n m.base in
      record {
        base = stored p n m.base;
        based = based_stored p t n m.based;
        ok = stored_ok l ok a p t n (frame_one l ok) (based_long m.based) (root_alike (frame_one l ok) b like)
            (λ x i. subst (λ rs. Memᴰ x rs) (root_links_same l like.reads.header) i) m.ok;
        noted = stored_noted l ok a p t n m.noted;
        phase = stored_word p n u PHASE (λ e. omega (arith, e, g)) ∙ m.phase;
      }

  -- the definitions of specs/Mixtures.antt, for these
  abbrev Going : (h : Heap) → Type 0
  Going = Rattle.sweep_laws.specs.Mixtures.Going l ok a r am y w b long f none v

  abbrev Past : (h : Heap) → Type 0
  Past = Rattle.sweep_laws.specs.Mixtures.Past l ok a r am y w b long f none v

  -- the phase of a heap that is another
  phase_of : {h : Heap} (t : Heap) (n : ℕ) → h ≡ t → at t.words PHASE ≡ n → n ≢ 0 → at h.words PHASE ≢ 0
  phase_of {h} t n e p d z = d (sym p ∙ ap (λ (x : Heap). at x.words PHASE) (sym e) ∙ z)

  -- the phase during the sweep
  sweep_phase : {h₀ h : Heap} {x : Arenas l h₀.words} {j n : ℕ} → Stage l h₀ x j n h → j ≤ 5 → (at h.words PHASE ≢ 0) × (at h.words PHASE ≢ 4)
  sweep_phase {h = h} {j = j} s i = go (ℕ_discrete j 0)
    where
      go : Dec (j ≡ 0) → (at h.words PHASE ≢ 0) × (at h.words PHASE ≢ 4)
      go (yes e) = let p = (s.strings e).0 in ((λ z. omega (arith, z, p)), λ z. omega (arith, z, p))
      go (no e) = let p = (s.others (omega (arith, e)) i).0 in ((λ z. omega (arith, z, p)), λ z. omega (arith, z, p))

  abbrev Stepped : Heap → Type 0
  Stepped = Rattle.sweep_laws.specs.Mixtures.Stepped l ok a r am y w b long f none v

  -- A single step goes on, or ends the sweep.
  pub step_keeps : (h : Heap) → Going h → Stepped h
  unfolding advances
  step_keeps h (paused u e s p) =
      let u_long = based_long s in
      let q : (single_step l h).1 ≡ heap (start_cycle l u) b = ap (λ (t : Heap). (single_step l t).1) e ∙ start_step l u b p in
      inl (
        marking (start_cycle l u) q (record {
          base = stored PHASE 1 u;
          based = based_stored PHASE phase_counter 1 s;
          ok = started_ok l ok a am u b u_long s.whites;
          noted = started_noted l ok a am u b u_long s.whites;
          phase = (started_phase l ok a b u u_long).1;
        }),
        phase_of (heap (start_cycle l u) b) 1 q (started_phase l ok a b u u_long).1 (omega arith),
      )
  step_keeps h (marking u e m) = go (ℕ_discrete (length_of l.gray u) 0)
    where
      base_long : l.words ≤ length m.base
      base_long = based_long m.based

      go : Dec (length_of l.gray u ≡ 0) → Stepped h
      go (no d) =
          let c = advances_ok l ok a am m.base b base_long 1 u m.ok in
          let q : (single_step l h).1 ≡ heap (advanced l (propagate_one (ops l) l b u)) b = ap (λ (t : Heap). (single_step l t).1) e ∙ gray_step l ok a b u m.phase d in
          let p : at (advanced l (propagate_one (ops l) l b u)) PHASE ≡ 1 =
          c.marked.kept PHASE (counters (omega arith) (omega arith)) ∙ sym (m.ok.marked.kept PHASE (counters (omega arith) (omega arith))) ∙ m.phase in
          inl (
            marking (advanced l (propagate_one (ops l) l b u)) q (record {
              base = m.base;
              based = m.based;
              ok = c;
              noted = advances_noted l ok a am m.base b base_long 1 u m.ok m.noted;
              phase = p;
            }),
            phase_of (heap (advanced l (propagate_one (ops l) l b u)) b) 1 q p (omega arith),
          )
      go (yes d) =
          let x : Ready l w b (heap (atomic l b u) b) = ready_based m.based (atomic_ready l ok a r am y m.base b base_long m.based.whites m.based.queue u m.ok m.noted) in
          let q : (single_step l h).1 ≡ heap (atomic l b u) b = ap (λ (t : Heap). (single_step l t).1) e ∙ atomic_step l ok a b u m.phase d in
          inl (
            sweeping (heap (atomic l b u) b) x 0 0 (omega arith)
                (subst (λ (t : Heap). Stage l (heap (atomic l b u) b) (ready_arenas l ok a r w b long f v (heap (atomic l b u) b) x) 0 0 t) (sym q)
                (stage_first l (heap (atomic l b u) b) (ready_arenas l ok a r w b long f v (heap (atomic l b u) b) x) x.phase x.cursor)),
            phase_of (heap (atomic l b u) b) 2 q x.phase (omega arith),
          )
  step_keeps h (sweeping h₀ x j n i s) =
      go
      (stage_step l ok a r h₀ (ready_arenas l ok a r w b long f v h₀ x) (ready_long l ok a r w b long f v h₀ x) (ready_low l ok a r w b long f v h₀ x) (ready_high l ok a r w b long f v h₀ x) j n h i s)
    where
      next : (j' n' : ℕ) → Stage l h₀ (ready_arenas l ok a r w b long f v h₀ x) j' n' (single_step l h).1 → Dec (j' < 6)
          → Stepped h
      next j' n' t (yes d) = inl (sweeping h₀ x j' n' (omega (arith, d)) t, (sweep_phase t (omega (arith, d))).0)
      next j' n' t (no d) =
          let e : j' ≡ 6 = omega (arith, t.most, d) in
          inr (
            past h₀ x (record {
              size = t.long;
              white = t.white;
              mark = t.first damage (omega arith);
              phase = inl (t.ended e);
              arenas = λ k i. t.done k i (omega (arith, i, e));
            }),
            t.ended e,
          )

      go : (j' : ℕ) × (n' : ℕ) × Stage l h₀ (ready_arenas l ok a r w b long f v h₀ x) j' n' (single_step l h).1 × (((j' ≡ j) × (n + 80 ≤ n')) ⊎ ((j' ≡ j + 1) × (n' ≡ 0)))
          → Stepped h
      go (j', n', t, p) = next j' n' t (dec_lt j' 6)

  -- Before the sweep is over the phase is not Finalize.
  pub going_phase : {h : Heap} → Going h → at h.words PHASE ≢ 4
  going_phase (paused u e s p) z = omega (arith, sym p ∙ ap (λ (t : Heap). at t.words PHASE) (sym e) ∙ z)
  going_phase (marking u e m) z = omega (arith, sym m.phase ∙ ap (λ (t : Heap). at t.words PHASE) (sym e) ∙ z)
  going_phase (sweeping h₀ x j n i s) z = (sweep_phase s i).1 z

  -- A word of pacing may change at any time.
  pub store_keeps : (p : ℕ) → 57 ≤ p → p < 69 → (n : ℕ) (h : Heap) → Going h → Going (heap (put p n h.words) h.bytes)
  store_keeps p g q n h (paused u e s z) =
      paused (stored p n u) (ap (λ (t : Heap). heap (put p n t.words) t.bytes) e) (based_stored p (pacing_counter p g q) n s) (stored_word p n u PHASE (λ t. omega (arith, t, g)) ∙ z)
  store_keeps p g q n h (marking u e m) = marking (stored p n u) (ap (λ (t : Heap). heap (put p n t.words) t.bytes) e) (marking_stored p g q n m)
  store_keeps p g q n h (sweeping h₀ x j m i s) =
      sweeping h₀ x j m i (record {
        long = length-set h.words p n ∙ s.long;
        first = λ t z. word t (λ e. omega (arith, e, z, g)) ∙ s.first t z;
        queue = λ t z. word t (off_queue t z) ∙ s.queue t z;
        white = word WHITE (λ e. omega (arith, e, g)) ∙ s.white;
        most = s.most;
        strings = λ e. let t = s.strings e in (word PHASE (λ z. omega (arith, z, g)) ∙ t.0, word CURSOR_SLOT (λ z. omega (arith, z, g)) ∙ t.1);
        others = λ e d.
            let t = s.others e d in
            (word PHASE (λ z. omega (arith, z, g)) ∙ t.0, ap (λ (k : ℕ). k + 1) (word CURSOR_ARENA (λ z. omega (arith, z, g))) ∙ t.1, word CURSOR_SLOT (λ z. omega (arith, z, g)) ∙ t.2);
        ended = λ e. word PHASE (λ z. omega (arith, z, g)) ∙ s.ended e;
        done = λ k c d. clean_same (ready_arenas l ok a r w b long f v h₀ x k c) (s.done k c d) (same k c);
        now = λ c. clean_same (ready_arenas l ok a r w b long f v h₀ x j c) (s.now c) (same j c);
        rest = λ k c d. clean_same (ready_arenas l ok a r w b long f v h₀ x k c) (s.rest k c d) (same k c);
      })
    where
      word : (t : ℕ) → t ≢ p → at (put p n h.words) t ≡ at h.words t
      word t d = get_or-set_other h.words p t n 0 d

      off_queue : (t : ℕ) → InQueue l t → t ≢ p
      off_queue t (inl z) e = omega (arith, e, z, q)
      off_queue t (inr z) e = omega (arith, e, z.0, q, o.header, a)

      same : (k : ℕ) → k ≤ 5 → Same (arena_of l k) h (heap (put p n h.words) h.bytes)
      same k c = low_same l ok a r k c h.words (put p n h.words) h.bytes (length-set h.words p n) (λ t z. word t (λ e. omega (arith, e, z, q)))

  -- What leaves arenas, white and damage mark keeps what is past.
  pub past_same : (h h' : Heap) → Past h → length h'.words ≡ length h.words → at h'.words WHITE ≡ at h.words WHITE → at h'.words damage ≡ at h.words damage
      → ((at h'.words PHASE ≡ 4) ⊎ ((at h'.words PHASE ≡ 0) × (length_of l.queue h'.words ≡ 0))) → ((k : ℕ) → k ≤ 5 → Same (arena_of l k) h h') → Past h'
  past_same h h' (past h₀ x s) e g m p same =
      past h₀ x (record {
        size = e ∙ s.size;
        white = g ∙ s.white;
        mark = m ∙ s.mark;
        phase = p;
        arenas = λ k c. clean_same (ready_arenas l ok a r w b long f v h₀ x k c) (s.arenas k c) (same k c);
      })

  -- The phase is Finalize then, or Pause with an empty queue.
  pub past_phase : {h : Heap} → Past h → (at h.words PHASE ≡ 4) ⊎ ((at h.words PHASE ≡ 0) × (length_of l.queue h.words ≡ 0))
  past_phase (past h₀ x s) = s.phase

  pub past_store : (p : ℕ) → 57 ≤ p → p < 69 → (n : ℕ) (h : Heap) → Past h → Past (heap (put p n h.words) h.bytes)
  past_store p g q n h s =
      past_same h (heap (put p n h.words) h.bytes) s (length-set h.words p n) (word WHITE (λ e. omega (arith, e, g))) (word damage (λ e. omega (arith, e, g)))
      (⊎_elim (λ z. inl (word PHASE (λ e. omega (arith, e, g)) ∙ z)) (λ z. inr (word PHASE (λ e. omega (arith, e, g)) ∙ z.0, ap (λ (k : ℕ). min k l.queue.room) (word l.queue.count (λ e. omega (arith, e, q, queue_count l ok))) ∙ z.1)) (past_phase s))
      (λ k c. low_same l ok a r k c h.words (put p n h.words) h.bytes (length-set h.words p n) (λ t z. word t (λ e. omega (arith, e, z, q))))
    where
      word : (t : ℕ) → t ≢ p → at (put p n h.words) t ≡ at h.words t
      word t d = get_or-set_other h.words p t n 0 d

  -- What is freed then is exactly what is to be freed.
  pub past_freed : l.bytes ≤ length b → (h : Heap) → Past h → Outcome l w b v h
  past_freed wide h (past h₀ x s) = record {
    left = h₀;
    long = s.size ∙ x.paint.long;
    size = (s.arenas 0 (omega arith)).size ∙ ap length x.bytes;
    arenas = λ k i. arena_freed l ok a r w b long f v h₀ x wide h s.white s.arenas k i;
    white = s.white ∙ x.white;
    whole = s.mark ∙ x.whole;
    empty = λ e. ⊎_elim (λ z. absurd (let t : ⊥ = omega (arith, e, z) in t)) (λ z. z.1) s.phase;
  }
