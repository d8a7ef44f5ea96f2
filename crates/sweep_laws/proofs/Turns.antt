-- The sweep by single steps, by the definitions of specs/Turns.antt. Assumes nothing.
--     stage_first          the state that the atomic step leaves
--     stage_step           a single step goes on in the arena at the cursor, or to the next, or to Finalize
--     sweep_done           so Finalize is reached, in a number of single steps that is linear in the slots
use Rattle.std.specs.Prelude.{◌≡◌, Bool, true, false, cond, ◌≢◌, List, [], ◌∷◌, length}
use Rattle.std.proofs.Math.Path.{refl, subst}
use Rattle.std.proofs.Common.{sym, ap, ◌∙◌, inl, inr, arith}
use Prim.Native.Nat.{ℕ, zero, suc, ◌+◌, ◌-◌, ◌*◌, ◌≤◌, ◌<◌}
use Rattle.std.proofs.Math.Decide.{ℕ_discrete, dec_lt}
use Rattle.base.specs.Ways.{if_lt, eq_yes, eq_no, lt_yes, lt_no}
use Rattle.base.specs.Words.{at, put}
use Rattle.base.specs.Heap.{Heap, heap}
use Rattle.arena.specs.declared.Arena.{Arena}
use Rattle.arena.specs.declared.Swept.{Swept}
use Rattle.arena.specs.Slots.{fresh, sweep_partial}
use Rattle.arena_laws.specs.Words.{puts_length, puts_far, puts_at}
use Rattle.arena_laws.specs.Counts.{tally_most, colours}
use Rattle.arena_laws.specs.Changes.{room_after}
use Rattle.arena_laws.specs.Sweeps.{Sweeps, sweep_does}
use Rattle.layout.specs.declared.Lay.{Lay}
use Rattle.layout.specs.Places.{PHASE, WHITE, CURSOR_ARENA, CURSOR_SLOT, TOTAL, ESTIMATE}
use Rattle.laid.specs.Laid.{Laid}
use Rattle.mark.specs.Ops.{other_white}
use Rattle.mark.specs.Words.{arena_of}
use Rattle.sweep_step.specs.declared.SweepCursor.{SweepCursor}
use Rattle.sweep_step.specs.Cursor.{start, advanced, next_arena, cursor_at, put_cursor}
use Rattle.sweep_step.specs.Sweeping.{arena_at, size_at, taken, sweep_arena, strings_moved, sweep_strings, others_moved, sweep_others}
use Rattle.step.specs.declared.Single.{Single}
use Rattle.step.specs.declared.Single.TheVariants.{Cost}
use Rattle.step.specs.Step.{start_cycle, propagate_step, costs, single_step}
use Rattle.mark_laws.specs.Apart.{Apart, Order, order, arena_lists}
use Rattle.atomic_laws.proofs.Survives.{other_white_lem}
use Rattle.cycle_laws.specs.Singles.{singles}
use Rattle.sweep_laws.specs.Batches.{clean_none, clean_cleaned, clean_same}
use Rattle.sweep_laws.specs.Places.{Rows, arena_at_lem, top_is, body_past, six_room, swept_same, low_same, low_outside}
use Rattle.sweep_laws.specs.Turns.{Arenas, To, InQueue, Stage, Low, Progress, slots_of, SweepDone}

-- The state that the atomic step leaves.
pub stage_first : (l : Lay) (h : Heap) (v : Arenas l h.words) → at h.words PHASE ≡ 2 → at h.words CURSOR_SLOT ≡ 0 → Stage l h v 0 0 h
stage_first l h v p c = record {
  long = refl;
  first = λ x p. refl;
  queue = λ x p. refl;
  white = refl;
  most = omega arith;
  strings = λ e. (p, c);
  others = λ e f. absurd (let z : ⊥ = omega (arith, e) in z);
  ended = λ e. absurd (let z : ⊥ = omega (arith, e) in z);
  done = λ k i e. absurd (let z : ⊥ = omega (arith, e) in z);
  now = λ i. clean_none l.strings _ _ h (v 0 i);
  rest = λ k i e. clean_none (arena_of l k) _ _ h (v k i);
}

-- At SweepString a single step is a batch of strings,
pub strings_step : (l : Lay) (h : Heap) → at h.words PHASE ≡ 2 → (single_step l h).1 ≡ sweep_strings l h
unfolding single_step
strings_step l h e =
    ap (λ (x : Single × Heap). x.1)
    (sym
    (eq_no (at h.words PHASE) 0 (Cost 0, heap (start_cycle l h.words) h.bytes) _ (Cost 10, sweep_strings l h) (λ z. omega (arith, z, e))
    (eq_no (at h.words PHASE) 1 (costs (propagate_step l h.bytes h.words) h.bytes) _ (Cost 10, sweep_strings l h) (λ z. omega (arith, z, e))
    (eq_yes (at h.words PHASE) 2 (Cost 10, sweep_strings l h) _ (Cost 10, sweep_strings l h) e refl))))

-- at Sweep one of the others.
pub others_step : (l : Lay) (h : Heap) → at h.words PHASE ≡ 3 → (single_step l h).1 ≡ sweep_others l h
unfolding single_step
others_step l h e =
    ap (λ (x : Single × Heap). x.1)
    (sym
    (eq_no (at h.words PHASE) 0 (Cost 0, heap (start_cycle l h.words) h.bytes) _ (Cost 800, sweep_others l h) (λ z. omega (arith, z, e))
    (eq_no (at h.words PHASE) 1 (costs (propagate_step l h.bytes h.words) h.bytes) _ (Cost 800, sweep_others l h) (λ z. omega (arith, z, e))
    (eq_no (at h.words PHASE) 2 (Cost 10, sweep_strings l h) _ (Cost 800, sweep_others l h) (λ z. omega (arith, z, e))
    (eq_yes (at h.words PHASE) 3 (Cost 800, sweep_others l h) _ (Cost 800, sweep_others l h) e refl)))))

-- Total and estimate are lowered.
taken_low : (n : ℕ) (w : List ℕ) → Low w (taken n w) × (at (taken n w) PHASE ≡ at w PHASE) × (at (taken n w) CURSOR_ARENA ≡ at w CURSOR_ARENA)
unfolding taken
taken_low n w =
    let w₁ : List ℕ = put TOTAL (at w TOTAL - n) w in
    let cs : List (ℕ × ℕ) = (ESTIMATE, at w₁ ESTIMATE - n) ∷ (TOTAL, at w TOTAL - n) ∷ [] in (
      record {
        long = puts_length cs w;
        first = λ x h. puts_far cs w x ((λ e. omega (arith, e, h)), ((λ e. omega (arith, e, h)), tt));
        high = λ x h. puts_far cs w x ((λ e. omega (arith, e, h)), ((λ e. omega (arith, e, h)), tt));
        white = puts_far cs w WHITE ((λ e. omega (arith, e)), ((λ e. omega (arith, e)), tt));
      },
      puts_far cs w PHASE ((λ e. omega (arith, e)), ((λ e. omega (arith, e)), tt)),
      puts_far cs w CURSOR_ARENA ((λ e. omega (arith, e)), ((λ e. omega (arith, e)), tt)),
    )

-- The cursor is written, and the phase may be.
cursor_low : (w₀ w : List ℕ) → Low w₀ w → (c : SweepCursor) → Low w₀ (put_cursor c w)
cursor_low w₀ w s c =
    let cs : List (ℕ × ℕ) = (CURSOR_SLOT, c.slot_position) ∷ (CURSOR_ARENA, c.arena_index) ∷ [] in
    record {
      long = puts_length cs w ∙ s.long;
      first = λ x h. puts_far cs w x ((λ e. omega (arith, e, h)), ((λ e. omega (arith, e, h)), tt)) ∙ s.first x h;
      high = λ x h. puts_far cs w x ((λ e. omega (arith, e, h)), ((λ e. omega (arith, e, h)), tt)) ∙ s.high x h;
      white = puts_far cs w WHITE ((λ e. omega (arith, e)), ((λ e. omega (arith, e)), tt)) ∙ s.white;
    }

phase_low : (w₀ w : List ℕ) → Low w₀ w → (p : ℕ) → Low w₀ (put PHASE p w)
phase_low w₀ w s p =
    let cs : List (ℕ × ℕ) = (PHASE, p) ∷ [] in
    record {
      long = puts_length cs w ∙ s.long;
      first = λ x h. puts_far cs w x ((λ e. omega (arith, e, h)), tt) ∙ s.first x h;
      high = λ x h. puts_far cs w x ((λ e. omega (arith, e, h)), tt) ∙ s.high x h;
      white = puts_far cs w WHITE ((λ e. omega (arith, e)), tt) ∙ s.white;
    }

-- what stands in the cursor then
cursor_words : (c : SweepCursor) (w : List ℕ) → 91 ≤ length w
    → (at (put_cursor c w) CURSOR_SLOT ≡ c.slot_position) × (at (put_cursor c w) CURSOR_ARENA ≡ c.arena_index) × (at (put_cursor c w) PHASE ≡ at w PHASE)
cursor_words c w h =
    let p : ℕ × ℕ = (CURSOR_SLOT, c.slot_position) in
    let q : ℕ × ℕ = (CURSOR_ARENA, c.arena_index) in (
      puts_at [] CURSOR_SLOT c.slot_position (q ∷ []) w tt (omega (arith, h)),
      puts_at (p ∷ []) CURSOR_ARENA c.arena_index [] w ((λ e. omega (arith, e)), tt) (omega (arith, h)),
      puts_far (p ∷ q ∷ []) w PHASE ((λ e. omega (arith, e)), ((λ e. omega (arith, e)), tt)),
    )

phase_words : (p : ℕ) (w : List ℕ) → 91 ≤ length w → (at (put PHASE p w) PHASE ≡ p) × (at (put PHASE p w) CURSOR_SLOT ≡ at w CURSOR_SLOT) × (at (put PHASE p w) CURSOR_ARENA ≡ at w CURSOR_ARENA)
phase_words p w h = (
  puts_at [] PHASE p [] w tt (omega (arith, h)),
  puts_far ((PHASE, p) ∷ []) w CURSOR_SLOT ((λ e. omega (arith, e)), tt),
  puts_far ((PHASE, p) ∷ []) w CURSOR_ARENA ((λ e. omega (arith, e)), tt),
)

module _ (l : Lay) (ok : Laid l) (a : Apart l) (r : Rows l) (h₀ : Heap) (v : Arenas l h₀.words) (long : l.words ≤ length h₀.words)
    (low : 1 ≤ at h₀.words WHITE) (high : at h₀.words WHITE ≤ 2) where
  abbrev o : Order l
  o = order l ok a

  abbrev new : ℕ
  new = at h₀.words WHITE

  abbrev old : ℕ
  old = other_white (at h₀.words WHITE)

  module _ (j n : ℕ) (h : Heap) (i : j ≤ 5) (s : Stage l h₀ v j n h) where
    -- the batch
    abbrev q : Swept × Heap
    q = sweep_partial (arena_of l j) (other_white (at h₀.words WHITE)) (at h₀.words WHITE) n 80 h

    does : Sweeps (arena_of l j) old new n 80 h (s.now i).keeps.free q
    does =
        sweep_does (arena_of l j) old new n 80 h (room_after s.long (six_room l ok a r h₀.words long j i)) (s.now i).keeps
        (other_white_lem new low high).0 low (omega (arith, high))

    h_long : 91 ≤ length q.1.words
    h_long = omega (arith, does.cleaned.long, s.long, long, o.words, o.header, a)

    same_word : (x : ℕ) → x < 73 → at q.1.words x ≡ at h.words x
    same_word x p = does.cleaned.outside x (low_outside l ok a r j x i p)

    module _ (u : List ℕ) (e : Low q.1.words u) where
      -- An arena that is not at the cursor is as it was.
      away : (k m : ℕ) (g : k ≤ 5) → j ≢ k → To l k m h₀ h (v k g).free → To l k m h₀ (heap u q.1.bytes) (v k g).free
      away k m g d c =
          clean_same (v k g) (clean_same (v k g) c (swept_same l ok a r j k i g d old new n 80 q.0.next q.0.freed does.seen h (s.now i).keeps.free does.cleaned))
          (low_same l ok a r k g q.1.words u q.1.bytes e.long (λ x p. e.high x (omega (arith, p))))

      -- The one at the cursor is swept up to where the batch ended.
      here : (g : j ≤ 5) → To l j q.0.next h₀ (heap u q.1.bytes) (v j g).free
      here g =
          let c = sweep_does (arena_of l j) old new n 80 h (room_after s.long (six_room l ok a r h₀.words long j i)) (s.now g).keeps (other_white_lem new low high).0 low (omega (arith, high)) in
          clean_same (v j g) (clean_cleaned (v j g) (s.now g) c.cleaned)
          (low_same l ok a r j g q.1.words u q.1.bytes e.long (λ x p. e.high x (omega (arith, p))))

      all_long : length u ≡ length h₀.words
      all_long = e.long ∙ does.cleaned.long ∙ s.long

      all_first : (x : ℕ) → x < 53 → at u x ≡ at h₀.words x
      all_first x p = e.first x p ∙ same_word x (omega (arith, p)) ∙ s.first x p

      all_queue : (x : ℕ) → InQueue l x → at u x ≡ at h₀.words x
      all_queue x (inl p) = e.high x (omega (arith, p)) ∙ same_word x (omega (arith, p)) ∙ s.queue x (inl p)
      all_queue x (inr p) =
          e.high x (omega (arith, p.0, o.header, a))
          ∙ does.cleaned.outside x (record {
            header = inr (omega (arith, p.0, i, top_is l ok a r j i, o.header, a));
            cells = inr (omega (arith, p.0, arena_lists l o j i, a));
            bodies = inl (omega (arith, p.1, body_past l ok a r j i));
          })
          ∙ s.queue x (inr p)

      all_white : at u WHITE ≡ at h₀.words WHITE
      all_white = e.white ∙ same_word WHITE (omega arith) ∙ s.white

      -- The arena is not at its end.
      on : q.0.done ≡ false → (j ≡ 0 → (at u PHASE ≡ 2) × (at u CURSOR_SLOT ≡ q.0.next))
          → (1 ≤ j → j ≤ 5 → (at u PHASE ≡ 3) × (at u CURSOR_ARENA + 1 ≡ j) × (at u CURSOR_SLOT ≡ q.0.next))
          → (j' : ℕ) × (n' : ℕ) × Stage l h₀ v j' n' (heap u q.1.bytes) × Progress j n j' n'
      on d f g = (
        j,
        q.0.next,
        record {
          long = all_long;
          first = all_first;
          queue = all_queue;
          white = all_white;
          most = omega (arith, i);
          strings = f;
          others = g;
          ended = λ z. absurd (let y : ⊥ = omega (arith, z, i) in y);
          done = λ k x p. away k _ x (omega (arith, p)) (s.done k x p);
          now = here;
          rest = λ k x p. away k 0 x (omega (arith, p)) (s.rest k x p);
        },
        inl (refl, far does.seen q.0.next (does.unfinished d).1 does.cleaned.visited does.cleaned.begun (tally_most (colours (arena_of l j) h.words) (q.0.next - n) n)),
      )
        where
          far : (seen next : ℕ) → seen ≡ 80 → {t : ℕ} → seen ≡ t → n ≤ next → t ≤ next - n → n + 80 ≤ next
          far seen next x y z f = omega (arith, x, y, z, f)

      -- It is.
      over : q.0.done ≡ true → (j + 1 ≤ 5 → (at u PHASE ≡ 3) × (at u CURSOR_ARENA ≡ j) × (at u CURSOR_SLOT ≡ 0)) → (j ≡ 5 → at u PHASE ≡ 4)
          → (j' : ℕ) × (n' : ℕ) × Stage l h₀ v j' n' (heap u q.1.bytes) × Progress j n j' n'
      over d f g = (
        j + 1,
        0,
        record {
          long = all_long;
          first = all_first;
          queue = all_queue;
          white = all_white;
          most = omega (arith, i);
          strings = λ z. absurd (let y : ⊥ = omega (arith, z) in y);
          others = λ x y. let c = f y in (c.0, ap (λ (k : ℕ). k + 1) c.1, c.2);
          ended = λ z. g (omega (arith, z));
          done = λ k x p. ended k x (ℕ_discrete k j) p;
          now = λ x. away (j + 1) 0 x (omega arith) (s.rest (j + 1) x (omega arith));
          rest = λ k x p. away k 0 x (omega (arith, p)) (s.rest k x (omega (arith, p)));
        },
        inr (refl, refl),
      )
        where
          end : (g : j ≤ 5) → To l j (fresh (arena_of l j) h₀.words) h₀ (heap u q.1.bytes) (v j g).free
          end g =
              let c = here g in
              let e : q.0.next ≡ fresh (arena_of l j) h₀.words = omega (arith, c.within, does.ended d, (s.now i).end) in
              subst (λ (m : ℕ). To l j m h₀ (heap u q.1.bytes) (v j g).free) e c

          ended : (k : ℕ) (x : k ≤ 5) → Dec (k ≡ j) → k < j + 1 → To l k (fresh (arena_of l k) h₀.words) h₀ (heap u q.1.bytes) (v k x).free
          ended k x (yes z) p = subst (λ (k : ℕ). (x : k ≤ 5) → To l k (fresh (arena_of l k) h₀.words) h₀ (heap u q.1.bytes) (v k x).free) (sym z) end x
          ended k x (no z) p = away k _ x (λ y. z (sym y)) (s.done k x (omega (arith, p, z)))

  -- what a step answers
  abbrev Goes : ℕ → ℕ → Heap → Type 0
  Goes j n x = (j' : ℕ) × (n' : ℕ) × Stage l h₀ v j' n' x × Progress j n j' n'

  -- A batch of strings.
  step_strings : (n : ℕ) (h : Heap) → Stage l h₀ v 0 n h → Goes 0 n (single_step l h).1
  unfolding sweep_strings sweep_arena strings_moved
  step_strings n h s = subst (λ x. Goes 0 n x) (sym is) (go b.0.done refl)
    where
      b : Swept × Heap
      b = q 0 n h (omega arith) s

      c : SweepCursor
      c = cursor_at h.words

      w : List ℕ
      w = taken ((q 0 n h (omega arith) s).0.freed * 48) (q 0 n h (omega arith) s).1.words

      is : (single_step l h).1 ≡ heap (strings_moved (cursor_at h.words) b.0 w) b.1.bytes
      is =
          let F : ℕ → ℕ → Heap = λ white from.
          let x = sweep_partial l.strings (other_white white) white from 80 h in
          heap (strings_moved (cursor_at h.words) x.0 (taken (x.0.freed * 48) x.1.words)) x.1.bytes in
          strings_step l h (s.strings refl).0 ∙ ap (λ (k : ℕ). F k (at h.words CURSOR_SLOT)) s.white ∙ ap (λ (k : ℕ). F (at h₀.words WHITE) k) (s.strings refl).1

      t : Low b.1.words w × (at w PHASE ≡ at b.1.words PHASE) × (at w CURSOR_ARENA ≡ at b.1.words CURSOR_ARENA)
      t = taken_low (b.0.freed * 48) b.1.words

      w_long : 91 ≤ length w
      w_long = omega (arith, t.0.long, h_long 0 n h (omega arith) s)

      go : (d : Bool) → b.0.done ≡ d → Goes 0 n (heap (strings_moved (cursor_at h.words) b.0 w) b.1.bytes)
      go true e =
          let u : List ℕ = put PHASE 3 (put_cursor start w) in
          let k = cursor_words start w w_long in
          let p = phase_words 3 (put_cursor start w) (omega (arith, w_long, (cursor_low b.1.words w t.0 start).long, t.0.long)) in
          subst (λ (x : List ℕ). Goes 0 n (heap x b.1.bytes)) (sym (ap (λ (d : Bool). cond d (put PHASE 3 (put_cursor start w)) (put_cursor (advanced c b.0.next) w)) e))
          (over 0 n h (omega arith) s u (phase_low b.1.words (put_cursor start w) (cursor_low b.1.words w t.0 start) 3) e
          (λ z. (p.0, p.2 ∙ k.1, p.1 ∙ k.0)) (λ z. absurd (let y : ⊥ = omega (arith, z) in y)))
      go false e =
          let u : List ℕ = put_cursor (advanced c b.0.next) w in
          let k = cursor_words (advanced c b.0.next) w w_long in
          subst (λ (x : List ℕ). Goes 0 n (heap x b.1.bytes)) (sym (ap (λ (d : Bool). cond d (put PHASE 3 (put_cursor start w)) (put_cursor (advanced c b.0.next) w)) e))
          (on 0 n h (omega arith) s u (cursor_low b.1.words w t.0 (advanced c b.0.next)) e
          (λ z. (k.2 ∙ t.1 ∙ same_word 0 n h (omega arith) s PHASE (omega arith) ∙ (s.strings refl).0, k.0)) (λ x y. absurd (let z : ⊥ = omega (arith, x) in z)))

  -- A batch of one of the others.
  step_others : (j n : ℕ) (h : Heap) → j + 1 ≤ 5 → Stage l h₀ v (j + 1) n h → Goes (j + 1) n (single_step l h).1
  unfolding sweep_others sweep_arena others_moved
  step_others j n h i s = subst (λ x. Goes (j + 1) n x) (sym is) (go b.0.done refl (dec_lt j 4))
    where
      m : (at h.words PHASE ≡ 3) × (at h.words CURSOR_ARENA + 1 ≡ j + 1) × (at h.words CURSOR_SLOT ≡ n)
      m = s.others (omega arith) i

      at_j : at h.words CURSOR_ARENA ≡ j
      at_j = omega (arith, m.1)

      b : Swept × Heap
      b = q (j + 1) n h i s

      c : SweepCursor
      c = cursor_at h.words

      w : List ℕ
      w = taken ((q (j + 1) n h i s).0.freed * size_at (at h.words CURSOR_ARENA)) (q (j + 1) n h i s).1.words

      is : (single_step l h).1 ≡ heap (others_moved (cursor_at h.words) b.0 w) b.1.bytes
      is =
          let F : Arena → ℕ → ℕ → Heap = λ arena white from.
          let x = sweep_partial arena (other_white white) white from 80 h in
          heap (others_moved (cursor_at h.words) x.0 (taken (x.0.freed * size_at (at h.words CURSOR_ARENA)) x.1.words)) x.1.bytes in
          others_step l h m.0
          ∙ ap (λ (k : Arena). F k (at h.words WHITE) (at h.words CURSOR_SLOT)) (ap (arena_at l) at_j ∙ arena_at_lem l j (omega (arith, i)) ∙ ap (arena_of l) next)
          ∙ ap (λ (k : ℕ). F (arena_of l (j + 1)) k (at h.words CURSOR_SLOT)) s.white
          ∙ ap (λ (k : ℕ). F (arena_of l (j + 1)) (at h₀.words WHITE) k) m.2
        where
          next : suc j ≡ j + 1
          next = omega arith

      t : Low b.1.words w × (at w PHASE ≡ at b.1.words PHASE) × (at w CURSOR_ARENA ≡ at b.1.words CURSOR_ARENA)
      t = taken_low (b.0.freed * size_at (at h.words CURSOR_ARENA)) b.1.words

      w_long : 91 ≤ length w
      w_long = omega (arith, t.0.long, h_long (j + 1) n h i s)

      w_phase : at w PHASE ≡ 3
      w_phase = t.1 ∙ same_word (j + 1) n h i s PHASE (omega arith) ∙ m.0

      moved : (d : Bool) → b.0.done ≡ d
          → others_moved (cursor_at h.words) b.0 w ≡ cond d (if_lt c.arena_index 4 (put_cursor (next_arena c) w) (put PHASE 4 w)) (put_cursor (advanced c b.0.next) w)
      moved d e = ap (λ (d : Bool). cond d (if_lt c.arena_index 4 (put_cursor (next_arena c) w) (put PHASE 4 w)) (put_cursor (advanced c b.0.next) w)) e

      go : (d : Bool) → b.0.done ≡ d → Dec (j < 4) → Goes (j + 1) n (heap (others_moved (cursor_at h.words) b.0 w) b.1.bytes)
      go true e (yes f) =
          let k = cursor_words (next_arena c) w w_long in
          subst (λ (x : List ℕ). Goes (j + 1) n (heap x b.1.bytes))
          (sym (moved true e ∙ sym (lt_yes c.arena_index 4 (put_cursor (next_arena c) w) (put PHASE 4 w) _ (omega (arith, at_j, f)) refl)))
          (over (j + 1) n h i s (put_cursor (next_arena c) w) (cursor_low b.1.words w t.0 (next_arena c)) e
          (λ z. (k.2 ∙ w_phase, k.1 ∙ m.1, k.0)) (λ z. absurd (let y : ⊥ = omega (arith, z, f) in y)))
      go true e (no f) =
          subst (λ (x : List ℕ). Goes (j + 1) n (heap x b.1.bytes))
          (sym (moved true e ∙ sym (lt_no c.arena_index 4 (put_cursor (next_arena c) w) (put PHASE 4 w) _ (omega (arith, at_j, f)) refl)))
          (over (j + 1) n h i s (put PHASE 4 w) (phase_low b.1.words w t.0 4) e
          (λ z. absurd (let y : ⊥ = omega (arith, z, f) in y)) (λ z. (phase_words 4 w w_long).0))
      go false e f =
          let k = cursor_words (advanced c b.0.next) w w_long in
          subst (λ (x : List ℕ). Goes (j + 1) n (heap x b.1.bytes)) (sym (moved false e))
          (on (j + 1) n h i s (put_cursor (advanced c b.0.next) w) (cursor_low b.1.words w t.0 (advanced c b.0.next)) e
          (λ z. absurd (let y : ⊥ = omega (arith, z) in y)) (λ x y. (k.2 ∙ w_phase, ap (λ (d : ℕ). d + 1) k.1 ∙ m.1, k.0)))

  -- A single step during the sweep goes on in the arena at the cursor, or to the next, or to Finalize.
  pub stage_step : (j n : ℕ) (h : Heap) → j ≤ 5 → Stage l h₀ v j n h → (j' : ℕ) × (n' : ℕ) × Stage l h₀ v j' n' (single_step l h).1 × Progress j n j' n'
  stage_step zero n h i s = step_strings n h s
  stage_step (suc j) n h i s =
      let e : j + 1 ≡ suc j = omega arith in
      subst (λ (k : ℕ). k ≤ 5 → Stage l h₀ v k n h → Goes k n (single_step l h).1) e (λ i s. step_others j n h i s) i s

  -- The phase is Finalize exactly past the last arena.
  pub stage_phase : {j n : ℕ} {h : Heap} → Stage l h₀ v j n h → j ≤ 5 → at h.words PHASE ≢ 4
  stage_phase {j} s i e = go (ℕ_discrete j 0)
    where
      go : Dec (j ≡ 0) → ⊥
      go (yes z) = omega (arith, e, (s.strings z).0)
      go (no z) = omega (arith, e, (s.others (omega (arith, z)) i).0)

  -- the slots of the arenas from the j-th on
  abbrev slots_from : ℕ → ℕ
  slots_from zero = l.strings.slots + l.tables.slots + l.functions.slots + l.upvalues.slots + l.userdata.slots + l.threads.slots
  slots_from (suc zero) = l.tables.slots + l.functions.slots + l.upvalues.slots + l.userdata.slots + l.threads.slots
  slots_from (suc (suc zero)) = l.functions.slots + l.upvalues.slots + l.userdata.slots + l.threads.slots
  slots_from (suc (suc (suc zero))) = l.upvalues.slots + l.userdata.slots + l.threads.slots
  slots_from (suc (suc (suc (suc zero)))) = l.userdata.slots + l.threads.slots
  slots_from (suc (suc (suc (suc (suc zero))))) = l.threads.slots
  slots_from (suc (suc (suc (suc (suc (suc j)))))) = 0

  slots_next : (j : ℕ) → j ≤ 5 → slots_from j ≡ (arena_of l j).slots + slots_from (j + 1)
  slots_next zero i = omega arith
  slots_next (suc zero) i = omega arith
  slots_next (suc (suc zero)) i = omega arith
  slots_next (suc (suc (suc zero))) i = omega arith
  slots_next (suc (suc (suc (suc zero)))) i = omega arith
  slots_next (suc (suc (suc (suc (suc zero))))) i = omega arith
  slots_next (suc (suc (suc (suc (suc (suc j)))))) i = absurd (let z : ⊥ = omega (arith, i) in z)

  -- the cursor lies within the slots
  stage_small : {j n : ℕ} {h : Heap} → Stage l h₀ v j n h → (i : j ≤ 5) → n ≤ (arena_of l j).slots
  stage_small {j} s i = omega (arith, (s.now i).within, (v j i).within)

  -- past the last arena there is no slot
  stage_end : {j n : ℕ} {h : Heap} → Stage l h₀ v j n h → (j < 6 → ⊥) → Stage l h₀ v 6 0 h
  stage_end {j} {n} {h} s d =
      let e : j ≡ 6 = omega (arith, s.most, d) in
      record {
        long = s.long;
        first = s.first;
        queue = s.queue;
        white = s.white;
        most = omega arith;
        strings = λ z. absurd (let y : ⊥ = omega (arith, z) in y);
        others = λ x z. absurd (let y : ⊥ = omega (arith, z) in y);
        ended = λ z. s.ended e;
        done = λ k x p. s.done k x (omega (arith, p, e));
        now = λ x. absurd (let y : ⊥ = omega (arith, x) in y);
        rest = λ k x p. absurd (let y : ⊥ = omega (arith, x, p) in y);
      }

  -- So Finalize is reached, first after m single steps. A step that does not end an arena sees 80 occupied slots, so m is at most
  -- 6 and one for each 80 slots.
  abbrev Until : ℕ → ℕ → Heap → Type 0
  Until j n h = (m : ℕ) × (80 * m + 80 * j + n ≤ slots_from j + 480) × Stage l h₀ v 6 0 (singles l m h) × ((i : ℕ) → i < m → at (singles l i h).words PHASE ≢ 4)

  until_swept : (k j n : ℕ) (h : Heap) → Stage l h₀ v j n h → n ≤ slots_from j → slots_from j + 6 ≤ k + n + j → Until j n h
  unfolding singles
  until_swept zero j n h s f g = (0, none (slots_from j) f g, stage_end s (late (slots_from j) f g), λ i p. absurd (let z : ⊥ = omega (arith, p) in z))
    where
      late : (x : ℕ) → n ≤ x → x + 6 ≤ 0 + n + j → j < 6 → ⊥
      late x f g d = omega (arith, f, g, d)

      none : (x : ℕ) → n ≤ x → x + 6 ≤ 0 + n + j → 80 * 0 + 80 * j + n ≤ x + 480
      none x f g = omega (arith, f, g, s.most)
  until_swept (suc k) j n h s f g = go (λ j' n' t p q. until_swept k j' n' (single_step l h).1 t p q) (dec_lt j 6)
    where
      last : (x : ℕ) → n ≤ x → (j < 6 → ⊥) → 80 * 0 + 80 * j + n ≤ x + 480
      last x f d = omega (arith, f, d, s.most)

      -- on in the same arena
      same_left : (x y j' n' : ℕ) → y ≡ x → j' ≡ j → n + 80 ≤ n' → x + 6 ≤ suc k + n + j → y + 6 ≤ k + n' + j'
      same_left x y j' n' e p q g = omega (arith, e, p, q, g)

      same_few : (x y m j' n' : ℕ) → y ≡ x → j' ≡ j → n + 80 ≤ n' → 80 * m + 80 * j' + n' ≤ y + 480 → 80 * suc m + 80 * j + n ≤ x + 480
      same_few x y m j' n' e p q g = omega (arith, e, p, q, g)

      -- to the next
      next_left : (x y z j' n' : ℕ) → x ≡ z + y → n ≤ z → j' ≡ j + 1 → n' ≡ 0 → x + 6 ≤ suc k + n + j → y + 6 ≤ k + n' + j'
      next_left x y z j' n' e d p q g = omega (arith, e, d, p, q, g)

      next_few : (x y z m j' n' : ℕ) → x ≡ z + y → n ≤ z → j' ≡ j + 1 → n' ≡ 0 → 80 * m + 80 * j' + n' ≤ y + 480 → 80 * suc m + 80 * j + n ≤ x + 480
      next_few x y z m j' n' e d p q g = omega (arith, e, d, p, q, g)

      more : (x y z : ℕ) → x ≤ y → x ≤ y + z
      more x y z f = omega (arith, f)

      zero_small : (x n' : ℕ) → n' ≡ 0 → n' ≤ x
      zero_small x n' e = omega (arith, e)

      first : (m : ℕ) → j ≤ 5 → ((i : ℕ) → i < m → at (singles l i (single_step l h).1).words PHASE ≢ 4) → (i : ℕ) → i < suc m → at (singles l i h).words PHASE ≢ 4
      first m i rest zero p = stage_phase s i
      first m i rest (suc x) p = rest x (omega (arith, p))

      go : ((j' n' : ℕ) → Stage l h₀ v j' n' (single_step l h).1 → n' ≤ slots_from j' → slots_from j' + 6 ≤ k + n' + j' → Until j' n' (single_step l h).1) → Dec (j < 6) → Until j n h
      go rest (no d) = (0, last (slots_from j) f d, stage_end s d, λ i p. absurd (let z : ⊥ = omega (arith, p) in z))
      go rest (yes d) = on (stage_step j n h (omega (arith, d)) s)
        where
          i : j ≤ 5
          i = omega (arith, d)

          on : Goes j n (single_step l h).1 → Until j n h
          on (j', n', t, inl p) =
              let x : slots_from j' ≡ slots_from j = ap slots_from p.0 in
              let i' : j' ≤ 5 = omega (arith, p.0, i) in
              let r = rest j' n' t
              (subst (λ (y : ℕ). n' ≤ y) (sym (slots_next j' i')) (more n' (arena_of l j').slots (slots_from (j' + 1)) (stage_small t i')))
              (same_left (slots_from j) (slots_from j') j' n' x p.0 p.1 g) in
              (suc r.0, same_few (slots_from j) (slots_from j') r.0 j' n' x p.0 p.1 r.1, r.2, first r.0 i r.3)
          on (j', n', t, inr p) =
              let x : slots_from j ≡ (arena_of l j).slots + slots_from j' = slots_next j i ∙ ap (λ (k : ℕ). (arena_of l j).slots + slots_from k) (sym p.0) in
              let r = rest j' n' t (zero_small (slots_from j') n' p.1)
              (next_left (slots_from j) (slots_from j') (arena_of l j).slots j' n' x (stage_small s i) p.0 p.1 g) in
              (suc r.0, next_few (slots_from j) (slots_from j') (arena_of l j).slots r.0 j' n' x (stage_small s i) p.0 p.1 r.1, r.2, first r.0 i r.3)

pub sweep_done : (l : Lay) → Laid l → Apart l → Rows l → (h : Heap) (v : Arenas l h.words) → l.words ≤ length h.words → 1 ≤ at h.words WHITE → at h.words WHITE ≤ 2
    → at h.words PHASE ≡ 2 → at h.words CURSOR_SLOT ≡ 0 → SweepDone l h v
sweep_done l ok a r h v long low high p c =
    let u = until_swept l ok a r h v long low high (slots_of l + 6) 0 0 h (stage_first l h v p c) (omega arith) (omega arith) in
    record {
      steps = u.0;
      few = omega (arith, u.1);
      finalize = u.2.ended refl;
      first = u.3;
      kept = u.2.first;
      queue = u.2.queue;
      white = u.2.white;
      arenas = λ k i. u.2.done k i (omega (arith, i));
    }
