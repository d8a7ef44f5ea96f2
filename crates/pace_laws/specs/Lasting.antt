-- How many single steps a collection has left at most, 80 for each: what is counted falls with each step and is the same whatever stands
-- in the words of pacing. Assumes nothing.
--     Left, Lasts      what is left, t beside; of a collection under way
--     step_lasts       a single step leaves one less
--     store_lasts      words of pacing may change
use Rattle.std.specs.Prelude.{◌≡◌, refl, Bool, cond, ◌⊎◌, ◌≢◌, List, ℕ, zero, suc, min, ◌+◌, ◌*◌, ◌≤◌, ◌<◌, length}
use Rattle.std.proofs.Common.{sym, subst, ap, ◌∙◌, inl, inr, ⊎_elim, arith, length-set, get_or-set_other}
use Rattle.std.proofs.Math.Decide.{ℕ_discrete, dec_lt}
use Rattle.base.specs.Words.{at, put}
use Rattle.base.specs.Heap.{Heap, heap}
use Rattle.layout.specs.declared.Lay.{Lay}
use Rattle.layout.specs.Places.{PHASE, CURSOR_ARENA, CURSOR_SLOT}
use Rattle.lists.specs.Lists.{length_of}
use Rattle.laid.specs.Laid.{Laid}
use Rattle.mark.specs.Ops.{is_white}
use Rattle.mark.specs.Words.{arena_of, ops}
use Rattle.propagate.specs.Propagation.{rounds, propagate_one}
use Rattle.atomic.specs.Atomic.{atomic}
use Rattle.step.specs.Step.{start_cycle, single_step}
use Rattle.mark_laws.specs.Apart.{Apart, Order, order}
use Rattle.mark_laws.specs.Changes.{counters, colour_in}
use Rattle.mark_laws.specs.Whites.{whites_to, whites_of}
use Rattle.mark_laws.specs.Weights.{weight, weight_most}
use Rattle.room_laws.specs.Tallies.{Ample}
use Rattle.room_laws.proofs.Payments.{whole_long}
use Rattle.reach.specs.Cycle.{AllWhite, advanced}
use Rattle.atomic_laws.specs.Bodies.{Bodies}
use Rattle.cycle_laws.specs.Singles.{start_step, gray_step, atomic_step, started_phase, advanced_marked, advanced_less}
use Rattle.sweep_laws.specs.Places.{Rows}
use Rattle.sweep_laws.specs.Turns.{Arenas, Stage, slots_of}
use Rattle.sweep_laws.proofs.Turns.{stage_step}
use Rattle.sweep_laws.specs.Collections.{Ready, ready_arenas}
use Rattle.sweep_laws.proofs.Collections.{ready_long, ready_low, ready_high, atomic_ready}
use Rattle.sweep_laws.specs.Mixtures.{Based, Marking, Going, paused, marking, sweeping, Past}
use Rattle.sweep_laws.proofs.Mixtures.{step_keeps, store_keeps}

-- the slots of the arenas from the j-th on
abbrev pub slots_from : Lay → ℕ → ℕ
slots_from l zero = slots_of l
slots_from l (suc zero) = l.tables.slots + l.functions.slots + l.upvalues.slots + l.userdata.slots + l.threads.slots
slots_from l (suc (suc zero)) = l.functions.slots + l.upvalues.slots + l.userdata.slots + l.threads.slots
slots_from l (suc (suc (suc zero))) = l.upvalues.slots + l.userdata.slots + l.threads.slots
slots_from l (suc (suc (suc (suc zero)))) = l.userdata.slots + l.threads.slots
slots_from l (suc (suc (suc (suc (suc zero))))) = l.threads.slots
slots_from l (suc (suc (suc (suc (suc (suc j)))))) = 0

slots_next : (l : Lay) (j : ℕ) → j ≤ 5 → slots_from l j ≡ (arena_of l j).slots + slots_from l (j + 1)
slots_next l zero i = omega arith
slots_next l (suc zero) i = omega arith
slots_next l (suc (suc zero)) i = omega arith
slots_next l (suc (suc (suc zero))) i = omega arith
slots_next l (suc (suc (suc (suc zero)))) i = omega arith
slots_next l (suc (suc (suc (suc (suc zero))))) i = omega arith
slots_next l (suc (suc (suc (suc (suc (suc j)))))) i = absurd (let z : ⊥ = omega (arith, i) in z)

-- as many whites where the colours are the same
whites_same : (p n : ℕ) (w u : List ℕ) → ((i : ℕ) → i < n → at u (p + i) ≡ at w (p + i)) → whites_to p n u ≡ whites_to p n w
unfolding whites_to
whites_same p zero w u h = refl
whites_same p (suc n) w u h =
    ap (λ (x : ℕ). cond (is_white x) 1 0 + whites_to p n u) (h n (omega arith)) ∙ ap (λ (x : ℕ). cond (is_white (at w (p + n))) 1 0 + x) (whites_same p n w u (λ i f. h i (omega (arith, f))))

-- What is left at the heap h is at most m, t of it beside the steps up to Finalize: propagation by the weight of the words, the sweep by
-- the cursor.
pub record Left (l : Lay) (t m : ℕ) (h : Heap) : Type 0 where
  pub pause : at h.words PHASE ≡ 0 → 80 * rounds l + slots_of l + 640 + t ≤ m
  pub propagate : at h.words PHASE ≡ 1 → 80 * weight l h.words + slots_of l + 560 + t ≤ m
  pub strings : at h.words PHASE ≡ 2 → slots_of l + 480 + t ≤ m + at h.words CURSOR_SLOT
  pub others : at h.words PHASE ≡ 3 → slots_from l (at h.words CURSOR_ARENA + 1) + 480 + t ≤ m + 80 * (at h.words CURSOR_ARENA + 1) + at h.words CURSOR_SLOT
  pub ended : at h.words PHASE ≡ 4 → t ≤ m

le_then : (x y z : ℕ) → x ≤ y → y ≤ z → x ≤ z
le_then x y z f g = omega (arith, f, g)

-- more will do
pub left_more : {l : Lay} {t m k : ℕ} {h : Heap} → m ≤ k → Left l t m h → Left l t k h
left_more {l} {t} {m} {k} {h} f s = record {
  pause = λ e. omega (arith, f, s.pause e);
  propagate = λ e. le_then _ m k (s.propagate e) f;
  strings = λ e. omega (arith, f, s.strings e);
  others = λ e. le_then _ _ _ (s.others e) (omega (arith, f));
  ended = λ e. omega (arith, f, s.ended e);
}

module _ (l : Lay) (ok : Laid l) (a : Apart l) (r : Rows l) (am : Ample l) (y : Bodies l) (w b : List ℕ) (long : l.words ≤ length w) (f : AllWhite l w) (none : length_of l.queue w ≡ 0)
    (v : Arenas l w) (t : ℕ) where
  abbrev o : Order l
  o = order l ok a

  abbrev G : Heap → Type 0
  G h = Going l ok a r am y w b long f none v h

  abbrev P : Heap → Type 0
  P h = Past l ok a r am y w b long f none v h

  -- A collection under way, and what it has left.
  abbrev pub Lasts : ℕ → Heap → Type 0
  Lasts m h = G h × Left l t m h

  -- the stage of the sweep that it has come to
  abbrev At : (h₀ : Heap) → Ready l w b h₀ → ℕ → ℕ → Heap → Type 0
  At h₀ x j n h = Stage l h₀ (ready_arenas l ok a r w b long f v h₀ x) j n h

  -- what is left in propagation
  left_marking : (m : ℕ) (h : Heap) (u : List ℕ) → h ≡ heap u b → at u PHASE ≡ 1 → 80 * weight l u + slots_of l + 560 + t ≤ m → Left l t m h
  left_marking m h u e p q = subst (λ (x : Heap). Left l t m x) (sym e) (record {
    pause = λ z. absurd (let k : ⊥ = omega (arith, z, p) in k);
    propagate = λ z. q;
    strings = λ z. absurd (let k : ⊥ = omega (arith, z, p) in k);
    others = λ z. absurd (let k : ⊥ = omega (arith, z, p) in k);
    ended = λ z. absurd (let k : ⊥ = omega (arith, z, p) in k);
  })

  -- and in the sweep
  left_sweep : (m : ℕ) {h₀ h : Heap} (x : Ready l w b h₀) (j n : ℕ) → At h₀ x j n h → (j ≡ 6 → n ≡ 0) → slots_from l j + 480 + t ≤ m + 80 * j + n → Left l t m h
  left_sweep m {h₀} {h} x j n s last q = go (ℕ_discrete j 0) (dec_lt j 6)
    where
      first : (z k n : ℕ) → z + 480 + t ≤ m + 80 * 0 + n → k ≡ n → z + 480 + t ≤ m + k
      first z k n f e = omega (arith, f, e)

      other : (z p k n : ℕ) → z + 480 + t ≤ m + 80 * p + n → k ≡ n → z + 480 + t ≤ m + 80 * p + k
      other z p k n f e = omega (arith, f, e)

      go : Dec (j ≡ 0) → Dec (j < 6) → Left l t m h
      go (yes e) d =
          let p = s.strings e in
          record {
            pause = λ z. absurd (let k : ⊥ = omega (arith, z, p.0) in k);
            propagate = λ z. absurd (let k : ⊥ = omega (arith, z, p.0) in k);
            strings = λ z. first (slots_of l) (at h.words CURSOR_SLOT) n (subst (λ i. slots_from l i + 480 + t ≤ m + 80 * i + n) e q) p.1;
            others = λ z. absurd (let k : ⊥ = omega (arith, z, p.0) in k);
            ended = λ z. absurd (let k : ⊥ = omega (arith, z, p.0) in k);
          }
      go (no e) (yes d) =
          let p = s.others (omega (arith, e)) (omega (arith, d)) in
          record {
            pause = λ z. absurd (let k : ⊥ = omega (arith, z, p.0) in k);
            propagate = λ z. absurd (let k : ⊥ = omega (arith, z, p.0) in k);
            strings = λ z. absurd (let k : ⊥ = omega (arith, z, p.0) in k);
            others = λ z. other (slots_from l (at h.words CURSOR_ARENA + 1)) (at h.words CURSOR_ARENA + 1) (at h.words CURSOR_SLOT) n
                (subst (λ i. slots_from l i + 480 + t ≤ m + 80 * i + n) (sym p.1) q) p.2;
            ended = λ z. absurd (let k : ⊥ = omega (arith, z, p.0) in k);
          }
      go (no e) (no d) =
          let i : j ≡ 6 = omega (arith, s.most, d) in
          let p = s.ended i in
          record {
            pause = λ z. absurd (let k : ⊥ = omega (arith, z, p) in k);
            propagate = λ z. absurd (let k : ⊥ = omega (arith, z, p) in k);
            strings = λ z. absurd (let k : ⊥ = omega (arith, z, p) in k);
            others = λ z. absurd (let k : ⊥ = omega (arith, z, p) in k);
            ended = λ z. at_end (subst (λ i. slots_from l i + 480 + t ≤ m + 80 * i + n) i q) (last i);
          }
        where
          at_end : 0 + 480 + t ≤ m + 80 * 6 + n → n ≡ 0 → t ≤ m
          at_end q e = omega (arith, q, e)

  -- from what is left back to the stage
  sweep_left : (m : ℕ) {h₀ h : Heap} (x : Ready l w b h₀) (j n : ℕ) → j ≤ 5 → At h₀ x j n h → Left l t m h → slots_from l j + 480 + t ≤ m + 80 * j + n
  sweep_left m {h₀} {h} x j n i s q = go (ℕ_discrete j 0)
    where
      go : Dec (j ≡ 0) → slots_from l j + 480 + t ≤ m + 80 * j + n
      go (yes e) = let p = s.strings e in subst (λ i. slots_from l i + 480 + t ≤ m + 80 * i + n) (sym e) (omega (arith, q.strings p.0, p.1))
      go (no e) =
          let p = s.others (omega (arith, e)) i in
          subst (λ i. slots_from l i + 480 + t ≤ m + 80 * i + n) p.1 (other (slots_from l (at h.words CURSOR_ARENA + 1)) (at h.words CURSOR_ARENA + 1) (at h.words CURSOR_SLOT) (q.others p.0) p.2)
        where
          other : (z p k : ℕ) → z + 480 + t ≤ m + 80 * p + k → k ≡ n → z + 480 + t ≤ m + 80 * p + n
          other z p k f e = omega (arith, f, e)

  -- the cursor lies within the slots
  cursor_small : {h₀ h : Heap} (x : Ready l w b h₀) (j n : ℕ) → j ≤ 5 → At h₀ x j n h → n ≤ (arena_of l j).slots
  cursor_small {h₀} x j n i s = omega (arith, (s.now i).within, (ready_arenas l ok a r w b long f v h₀ x j i).within)

  -- There is a step left,
  pub lasts_some : (m : ℕ) (h : Heap) → Lasts m h → 80 ≤ m
  lasts_some m h (paused u e s p, q) = omega (arith, q.pause (ap (λ (x : Heap). at x.words PHASE) e ∙ p))
  lasts_some m h (marking u e s, q) = le (weight l h.words) (q.propagate (ap (λ (x : Heap). at x.words PHASE) e ∙ s.phase))
    where
      le : (z : ℕ) → 80 * z + slots_of l + 560 + t ≤ m → 80 ≤ m
      le z f = omega (arith, f)
  lasts_some m h (sweeping h₀ x j n i s, q) =
      le (slots_from l j) (arena_of l j).slots (slots_from l (j + 1)) (slots_next l j i) (cursor_small x j n i s) (sweep_left m x j n i s q)
    where
      le : (z c d : ℕ) → z ≡ c + d → n ≤ c → z + 480 + t ≤ m + 80 * j + n → 80 ≤ m
      le z c d e f g = omega (arith, e, f, g, i)

  -- and a single step leaves one less.
  step_left : (m : ℕ) (h : Heap) → G h → Left l t (m + 80) h → Left l t m (single_step l h).1
  step_left m h (paused u e s p) q =
      let u_long : l.words ≤ length u = omega (arith, long, s.paint.long) in
      left_marking m (single_step l h).1 (start_cycle l u) (ap (λ (x : Heap). (single_step l x).1) e ∙ start_step l u b p) (started_phase l ok a b u u_long).1
      (le (weight l (start_cycle l u)) (weight_most l (start_cycle l u)) (q.pause (ap (λ (x : Heap). at x.words PHASE) e ∙ p)))
    where
      le : (z : ℕ) → z ≤ l.tables.slots + l.functions.slots + l.threads.slots + l.gray.room → 80 * rounds l + slots_of l + 640 + t ≤ m + 80 → 80 * z + slots_of l + 560 + t ≤ m
      le z f g = omega (arith, f, g)
  step_left m h (marking u e s) q = go (ℕ_discrete (length_of l.gray u) 0)
    where
      u_long : l.words ≤ length u
      u_long = whole_long l ok a am s.base (omega (arith, long, s.based.paint.long)) s.ok.whole

      had : 80 * weight l u + slots_of l + 560 + t ≤ m + 80
      had = subst (λ (x : Heap). 80 * weight l x.words + slots_of l + 560 + t ≤ m + 80) e (q.propagate (ap (λ (x : Heap). at x.words PHASE) e ∙ s.phase))

      less : (x z : ℕ) → x + 1 ≤ z → 80 * z + slots_of l + 560 + t ≤ m + 80 → 80 * x + slots_of l + 560 + t ≤ m
      less x z f g = omega (arith, f, g)

      done : (z c : ℕ) → 80 * z + slots_of l + 560 + t ≤ m + 80 → c ≡ 0 → slots_of l + 480 + t ≤ m + c
      done z c f e = omega (arith, f, e)

      go : Dec (length_of l.gray u ≡ 0) → Left l t m (single_step l h).1
      go (no d) =
          left_marking m (single_step l h).1 (advanced l (propagate_one (ops l) l b u)) (ap (λ (x : Heap). (single_step l x).1) e ∙ gray_step l ok a b u s.phase d)
          ((advanced_marked l ok a b u u_long).kept PHASE (counters (omega arith) (omega arith)) ∙ s.phase)
          (less (weight l (advanced l (propagate_one (ops l) l b u))) (weight l u) (advanced_less l ok a b u u_long d) had)
      go (yes d) =
          let x = atomic_ready l ok a r am y s.base b (omega (arith, long, s.based.paint.long)) s.based.whites s.based.queue u s.ok s.noted in
          let k : (single_step l h).1 ≡ heap (atomic l b u) b = ap (λ (x : Heap). (single_step l x).1) e ∙ atomic_step l ok a b u s.phase d in
          subst (λ (x : Heap). Left l t m x) (sym k) (record {
            pause = λ z. absurd (let k : ⊥ = omega (arith, z, x.phase) in k);
            propagate = λ z. absurd (let k : ⊥ = omega (arith, z, x.phase) in k);
            strings = λ z. done (weight l u) (at (atomic l b u) CURSOR_SLOT) had x.cursor;
            others = λ z. absurd (let k : ⊥ = omega (arith, z, x.phase) in k);
            ended = λ z. absurd (let k : ⊥ = omega (arith, z, x.phase) in k);
          })
  step_left m h (sweeping h₀ x j n i s) q =
      go (stage_step l ok a r h₀ (ready_arenas l ok a r w b long f v h₀ x) (ready_long l ok a r w b long f v h₀ x) (ready_low l ok a r w b long f v h₀ x) (ready_high l ok a r w b long f v h₀ x) j n h i s)
    where
      had : slots_from l j + 480 + t ≤ (m + 80) + 80 * j + n
      had = sweep_left (m + 80) x j n i s q

      same : (z k p : ℕ) → z + 480 + t ≤ (m + 80) + 80 * k + n → n + 80 ≤ p → z + 480 + t ≤ m + 80 * k + p
      same z k p f g = omega (arith, f, g)

      next : (z c d : ℕ) → z ≡ c + d → n ≤ c → z + 480 + t ≤ (m + 80) + 80 * j + n → d + 480 + t ≤ m + 80 * (j + 1) + 0
      next z c d e f g = omega (arith, e, f, g)

      go : (j' : ℕ) × (n' : ℕ) × At h₀ x j' n' (single_step l h).1 × (((j' ≡ j) × (n + 80 ≤ n')) ⊎ ((j' ≡ j + 1) × (n' ≡ 0))) → Left l t m (single_step l h).1
      go (j', n', k, inl p) = left_sweep m x j' n' k (λ z. absurd (let y : ⊥ = omega (arith, z, p.0, i) in y)) (subst (λ i. slots_from l i + 480 + t ≤ m + 80 * i + n') (sym p.0) (same (slots_from l j) j n' had p.1))
      go (j', n', k, inr p) =
          left_sweep m x j' n' k (λ z. p.1)
          (subst (λ c. slots_from l j' + 480 + t ≤ m + 80 * j' + c) (sym p.1)
          (subst (λ i. slots_from l i + 480 + t ≤ m + 80 * i + 0) (sym p.0)
          (next (slots_from l j) (arena_of l j).slots (slots_from l (j + 1)) (slots_next l j i) (cursor_small x j n i s) had)))

  pub step_lasts : (m : ℕ) (h : Heap) → Lasts (m + 80) h
      → (Lasts m (single_step l h).1 × (at (single_step l h).1.words PHASE ≢ 0)) ⊎ (P (single_step l h).1 × (at (single_step l h).1.words PHASE ≡ 4) × (t ≤ m))
  step_lasts m h (g, q) =
      let k = step_left m h g q in
      ⊎_elim (λ z. inl ((z.0, k), z.1)) (λ z. inr (z.0, z.1, k.ended z.1)) (step_keeps l ok a r am y w b long f none v h g)

  -- Words of pacing may change.
  pub store_lasts : (p : ℕ) → 57 ≤ p → p < 69 → (n : ℕ) (m : ℕ) (u c : List ℕ) → Lasts m (heap u c) → Lasts m (heap (put p n u) c)
  store_lasts p g q n m u c (s, k) = (
    store_keeps l ok a r am y w b long f none v p g q n (heap u c) s,
    record {
      pause = λ z. k.pause (sym phase ∙ z);
      propagate = λ z. subst (λ x. 80 * x + slots_of l + 560 + t ≤ m) (sym heavy) (k.propagate (sym phase ∙ z));
      strings = λ z. subst (λ x. slots_of l + 480 + t ≤ m + x) (sym slot) (k.strings (sym phase ∙ z));
      others = λ z. subst (λ x. slots_from l (x + 1) + 480 + t ≤ m + 80 * (x + 1) + at (put p n u) CURSOR_SLOT) (sym arena)
          (subst (λ x. slots_from l (at u CURSOR_ARENA + 1) + 480 + t ≤ m + 80 * (at u CURSOR_ARENA + 1) + x) (sym slot) (k.others (sym phase ∙ z)));
      ended = λ z. k.ended (sym phase ∙ z);
    },
  )
    where
      word : (x : ℕ) → x ≢ p → at (put p n u) x ≡ at u x
      word x d = get_or-set_other u p x n 0 d

      phase : at (put p n u) PHASE ≡ at u PHASE
      phase = word PHASE (λ e. omega (arith, e, g))

      slot : at (put p n u) CURSOR_SLOT ≡ at u CURSOR_SLOT
      slot = word CURSOR_SLOT (λ e. omega (arith, e, g))

      arena : at (put p n u) CURSOR_ARENA ≡ at u CURSOR_ARENA
      arena = word CURSOR_ARENA (λ e. omega (arith, e, g))

      whites : (j : ℕ) → whites_to (arena_of l j).base (arena_of l j).slots (put p n u) ≡ whites_to (arena_of l j).base (arena_of l j).slots u
      whites j = whites_same (arena_of l j).base (arena_of l j).slots u (put p n u) (λ i d. word ((arena_of l j).base + i) (λ e. omega (arith, e, q, (colour_in l ok a j i d).0)))

      heavy : weight l (put p n u) ≡ weight l u
      heavy = omega (arith, whites 1, whites 2, whites 5, ap (λ (x : ℕ). min x l.gray.room) (word l.gray.count (λ e. omega (arith, e, q, o.gray))))
