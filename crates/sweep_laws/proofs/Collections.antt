-- A collection by single steps, by the definitions of specs/Collections.antt. Assumes nothing.
--     freed_exactly, planned_freed     the theorem; for the layout of any sizes
use Rattle.std.specs.Prelude.{◌≡◌, refl, ◌≢◌, length}
use Rattle.std.proofs.Common.{sym, subst, ◌∙◌, inl, inr, ⊎_elim, arith, length-set}
use Rattle.std.proofs.Math.Path.{ap}
use mathlib.Core.List.{List, [], ◌++◌, Memᴰ}
use Prim.Native.Nat.{ℕ, zero, suc, min, ◌+◌, ◌-◌, ◌*◌, ◌%◌, ◌^◌, ◌≤◌, ◌<◌}
use Rattle.std.proofs.Math.Decide.{ℕ_discrete, dec_lt}
use Rattle.base.specs.Ways.{eq_yes, eq_no}
use Rattle.base.specs.Words.{at}
use Rattle.base.specs.Heap.{Heap, heap}
use Rattle.arena.specs.declared.Arena.{Arena}
use Rattle.arena.specs.Slots.{colour, gen, fresh, used}
use Rattle.layout.specs.declared.Sizes.{Sizes}
use Rattle.layout.specs.declared.Lay.{Lay}
use Rattle.layout.specs.Sizes.{SizesOk}
use Rattle.layout.specs.Layout.{lay_of}
use Rattle.layout.specs.Places.{PHASE, WHITE}
use Rattle.lists.specs.Lists.{damage, length_of}
use Rattle.laid.specs.Laid.{Laid, laid_of}
use Rattle.mark.specs.Ops.{other_white}
use Rattle.mark.specs.Words.{arena_of, colour_w}
use Rattle.atomic.specs.Atomic.{marked, finished, atomic}
use Rattle.sweep_step.specs.Rooms.{swept_wide, strings_wide}
use Rattle.step.specs.Step.{start_cycle, single_step}
use Rattle.mark_laws.specs.Apart.{Apart, apart}
use Rattle.mark_laws.specs.Colours.{shade_parts}
use Rattle.mark_laws.specs.Changes.{tops}
use Rattle.room_laws.specs.Tallies.{Ample}
use Rattle.room_laws.proofs.Tallies.{ample}
use Rattle.room_laws.proofs.Payments.{whole_long}
use Rattle.room_laws.proofs.Queues.{queue_count}
use Rattle.room_laws.proofs.Atomics.{atomic_whole}
use Rattle.reach.specs.Reached.{Occupied, Root}
use Rattle.reach.specs.Cycle.{AllWhite, advances}
use Rattle.reach.specs.Oks.{Ok}
use Rattle.reach.specs.Exact.{None, First}
use Rattle.reach.proofs.Exact.{marked_ok}
use Rattle.atomic_laws.specs.Bodies.{Bodies, bodies}
use Rattle.atomic_laws.specs.Notes.{Noted}
use Rattle.atomic_laws.proofs.Notings.{marked_noted}
use Rattle.atomic_laws.proofs.Dues.{shade_colour}
use Rattle.atomic_laws.proofs.Survives.{other_white_lem, flipped_exact}
use Rattle.cycle_laws.specs.Counters.{stored, phase_counter, stored_word, stored_white}
use Rattle.cycle_laws.specs.Singles.{singles}
use Rattle.cycle_laws.specs.Collects.{steps_ok, steps_noted, none_v, Collected, collected}
use Rattle.sweep_laws.specs.Places.{Rows, rows, arena_at_lem}
use Rattle.sweep_laws.specs.Turns.{Arenas, To, SweepDone}
use Rattle.sweep_laws.proofs.Turns.{sweep_done}
use Rattle.sweep_laws.specs.Repaints.{repainted_then, repainted_fresh, repainted_gen, repainted_extent, repainted_free, repainted_keeps, low_repainted, atomic_repainted}
use Rattle.sweep_laws.specs.Collections.{slot_at, ToFree, Freed, Collection, Ready}

-- some steps, then others
pub singles_add : (l : Lay) (n m : ℕ) (h : Heap) → singles l (n + m) h ≡ singles l m (singles l n h)
unfolding singles
singles_add l zero m h = let q : zero + m ≡ m = omega arith in ap (λ (k : ℕ). singles l k h) q
singles_add l (suc n) m h = let q : suc n + m ≡ suc (n + m) = omega arith in ap (λ (k : ℕ). singles l k h) q ∙ singles_add l n m (single_step l h).1

-- the other white of the other white
pub other_back : (c : ℕ) → 1 ≤ c → c ≤ 2 → (other_white (other_white c) ≡ c) × (other_white c ≤ 2)
other_back c f g = go (ℕ_discrete c 1)
  where
    go : Dec (c ≡ 1) → (other_white (other_white c) ≡ c) × (other_white c ≤ 2)
    go (yes e) =
        let k : 2 ≡ other_white c = eq_yes c 1 2 1 2 e refl in
        let j : 1 ≡ other_white (other_white c) = eq_no (other_white c) 1 2 1 1 (λ z. omega (arith, z, k)) refl in
        (omega (arith, j, e), omega (arith, k))
    go (no d) =
        let k : 1 ≡ other_white c = eq_no c 1 2 1 1 d refl in
        let j : 2 ≡ other_white (other_white c) = eq_yes (other_white c) 1 2 1 2 (sym k) refl in
        (omega (arith, j, f, g, d), omega (arith, k))

-- the bytes of an arena's slots lie within bytes that are long enough
six_wide : (l : Lay) → Laid l → (k : ℕ) → k ≤ 5 → (n : ℕ) → l.bytes ≤ n → (arena_of l k).slots * (arena_of l k).width ≤ n
six_wide l ok zero i n h = strings_wide l n ok h
six_wide l ok (suc k) i n h = subst (λ (a : Arena). a.slots * a.width ≤ n) (arena_at_lem l k (omega (arith, i))) (swept_wide l k ok n h)

module _ (l : Lay) (ok : Laid l) (a : Apart l) (r : Rows l) (w b : List ℕ) (long : l.words ≤ length w) (f : AllWhite l w) (v : Arenas l w) (h₁ : Heap) (x : Ready l w b h₁) where
  -- the definitions of specs/Collections.antt, for these
  abbrev ready_arenas : Arenas l h₁.words
  ready_arenas = Rattle.sweep_laws.specs.Collections.ready_arenas l ok a r w b long f v h₁ x

  -- so the sweep begins
  pub ready_long : l.words ≤ length h₁.words
  ready_long = omega (arith, long, x.paint.long)

  pub ready_low : 1 ≤ at h₁.words WHITE
  ready_low = omega (arith, x.white, (other_white_lem (at w WHITE) f.low f.high).0)

  pub ready_high : at h₁.words WHITE ≤ 2
  ready_high = omega (arith, x.white, (other_back (at w WHITE) f.low f.high).1)

  -- the old white is the white before
  old : other_white (at h₁.words WHITE) ≡ at w WHITE
  old = ap (λ (n : ℕ). other_white n) x.white ∙ (other_back (at w WHITE) f.low f.high).0

  -- When all arenas are swept:
  module _ (wide : l.bytes ≤ length b) (h₂ : Heap) (flip : at h₂.words WHITE ≡ at h₁.words WHITE)
      (swept : (k : ℕ) (i : k ≤ 5) → To l k (fresh (arena_of l k) h₁.words) h₁ h₂ (ready_arenas k i).free) (k : ℕ) (g : k ≤ 5) where
    s : To l k (fresh (arena_of l k) h₁.words) h₁ h₂ (ready_arenas k g).free
    s = swept k g

    same_fresh : fresh (arena_of l k) h₁.words ≡ fresh (arena_of l k) w
    same_fresh = repainted_fresh l ok a r x.paint k g

    -- a slot freed lies below the fresh index
    below : (i : ℕ) → Memᴰ i s.gone → (i < fresh (arena_of l k) w) × (i < (arena_of l k).slots)
    below i m = let q = (s.is i).0 m in (omega (arith, q.0, same_fresh), omega (arith, q.0, same_fresh, (v k g).within))

    used_w : (i : ℕ) → i < fresh (arena_of l k) w → i < used (arena_of l k) w
    used_w i h = omega (arith, h, (v k g).within)

    -- an occupied slot lies there too
    occupied_below : (i : ℕ) → Occupied l w (slot_at l w k i) → (i < fresh (arena_of l k) w) × (i < (arena_of l k).slots)
    occupied_below i h = let p = shade_parts (arena_of l k) i (gen (arena_of l k) i w) w h in (omega (arith, p.0), omega (arith, p.0))

    -- the colour of its handle is its colour, before the collection and after the atomic step
    own_w : (i : ℕ) → i < fresh (arena_of l k) w → colour_w l (slot_at l w k i) w ≡ colour (arena_of l k) i w
    own_w i h = shade_colour (arena_of l k) i (gen (arena_of l k) i w) w (used_w i h) refl

    own_h : (i : ℕ) → i < fresh (arena_of l k) w → colour_w l (slot_at l w k i) h₁.words ≡ colour (arena_of l k) i h₁.words
    own_h i h =
        shade_colour (arena_of l k) i (gen (arena_of l k) i w) h₁.words (omega (arith, h, same_fresh, (v k g).within))
        (repainted_gen l ok a r x.paint k g i (omega (arith, h, (v k g).within)))

    -- occupied is not free, before and after
    not_free : (i : ℕ) → Occupied l w (slot_at l w k i) → colour (arena_of l k) i h₁.words ≢ 0
    not_free i h z =
        let q = occupied_below i h in
        none_of (colour_w l (slot_at l w k i) w) (colour (arena_of l k) i w) h (own_w i q.0) ((repainted_free l ok a r x.paint k g i q.1).1 z)
      where
        none_of : (p q : ℕ) → 1 ≤ p → p ≡ q → q ≡ 0 → ⊥
        none_of p q f g e = omega (arith, f, g, e)

    was_occupied : (i : ℕ) → i < fresh (arena_of l k) w → i < (arena_of l k).slots → colour (arena_of l k) i h₁.words ≡ at w WHITE → Occupied l w (slot_at l w k i)
    was_occupied i h t e =
        some_of (colour_w l (slot_at l w k i) w) (colour (arena_of l k) i w) (own_w i h)
        (λ z. white_of (colour (arena_of l k) i h₁.words) e ((repainted_free l ok a r x.paint k g i t).0 z))
      where
        some_of : (p q : ℕ) → p ≡ q → q ≢ 0 → 1 ≤ p
        some_of p q e d = omega (arith, e, d)

        white_of : (p : ℕ) → p ≡ at w WHITE → p ≡ 0 → ⊥
        white_of p e z = omega (arith, e, z, f.low)

    -- What is freed is to be freed,
    freed_is : (i : ℕ) → Memᴰ i s.gone → ToFree l w b (slot_at l w k i)
    freed_is i m =
        let q = below i m in
        let e : colour (arena_of l k) i h₁.words ≡ at w WHITE = ((s.is i).0 m).1 ∙ old in
        let occ = was_occupied i q.0 q.1 e in (
          occ,
          (λ z. (x.exact (slot_at l w k i) occ).1 (inl z) (own_h i q.0 ∙ e)),
          (λ z. (x.exact (slot_at l w k i) occ).1 (inr z) (own_h i q.0 ∙ e)),
        )

    -- and what is to be freed is freed.
    is_freed : (i : ℕ) → ToFree l w b (slot_at l w k i) → Memᴰ i s.gone
    is_freed i t = go (ℕ_discrete (colour_w l (slot_at l w k i) h₁.words) (at w WHITE))
      where
        go : Dec (colour_w l (slot_at l w k i) h₁.words ≡ at w WHITE) → Memᴰ i s.gone
        go (yes e) =
            let q = occupied_below i t.0 in
            (s.is i).1 (omega (arith, q.0, same_fresh), sym (own_h i q.0) ∙ e ∙ sym old)
        go (no d) = absurd (⊎_elim (λ z. t.1 z) (λ z. t.2 z) ((x.exact (slot_at l w k i) t.0).0 d))

    -- One arena.
    pub arena_freed : Freed l w b k (v k g).free h₁ h₂
    arena_freed = record {
      gone = s.gone;
      falls = s.falls;
      is = λ i. (freed_is i, is_freed i);
      end = s.end ∙ same_fresh;
      keeps = s.keeps;
      chain = s.chain ∙ ap (λ (q : List ℕ). s.gone ++ q) (repainted_keeps l ok a r x.paint k g (v k g)).1;
      died = s.died;
      aged = λ i m. s.aged i m ∙ ap (λ (n : ℕ). (n + 1) % 2 ^ 32) (repainted_gen l ok a r x.paint k g i (below i m).1);
      zeroed = λ i j m h. s.zeroed i j m (subst (λ (n : ℕ). j < n) (sym (repainted_extent l ok a r x.paint k g i (below i m).1)) h);
      erased = λ i j m h. s.erased (subst (λ (n : ℕ). (arena_of l k).slots * (arena_of l k).width ≤ n) (sym (ap length x.bytes)) (six_wide l ok k g (length b) wide)) i j m h;
      lives = λ i h m.
          let q = occupied_below i h in
          let t : i < fresh (arena_of l k) h₁.words = omega (arith, q.0, same_fresh) in
          s.painted i t (not_free i h) (λ e. m ((s.is i).1 (t, e))) ∙ sym flip;
      idle = λ i h e. s.idle i h ((repainted_free l ok a r x.paint k g i h).0 e);
      gens = λ i h m. s.gens i h m ∙ repainted_gen l ok a r x.paint k g i h;
      extents = λ i h m. s.extents i h m ∙ repainted_extent l ok a r x.paint k g i h;
      bodies = s.bodies;
      texts = λ i j h m p. s.texts i j h m p ∙ ap (λ (q : List ℕ). at q (i * (arena_of l k).width + j)) x.bytes;
    }

module _ (l : Lay) (ok : Laid l) (a : Apart l) (r : Rows l) (am : Ample l) (y : Bodies l) (w b : List ℕ) (long : l.words ≤ length w) (f : AllWhite l w) (none : length_of l.queue w ≡ 0) where
  -- The second part of the atomic phase, from words u in which what the roots reach is marked.
  pub atomic_ready : (u : List ℕ) → Ok l w b (Root l w b) (First l w) None 0 0 0 [] u → Noted l w b u → Ready l w b (heap (atomic l b u) b)
  unfolding atomic
  atomic_ready u c n =
      let d = marked_ok l ok a am w b long u c in
      let m = marked_noted l ok a am w b long u c n in
      let x = atomic_repainted l ok a r am y w b long f none (marked l b u) d.0 d.1 (finished l b (marked l b u)).0 in
      record {
        paint = x.0;
        bytes = refl;
        white = x.1;
        phase = x.2;
        cursor = x.3;
        whole = atomic_whole l ok a am b u (whole_long l ok a am w long c.whole) c.whole.paid (queue u c) ∙ c.whole.mark;
        exact = λ q i. flipped_exact l ok a am y w b long f none (marked l b u) d.0 d.1 m _ q i;
      }
    where
      queue : (u : List ℕ) → Ok l w b (Root l w b) (First l w) None 0 0 0 [] u → length_of l.queue u ≡ 0
      queue u c = ap (λ (k : ℕ). min k l.queue.room) (c.marked.kept l.queue.count (tops (omega (arith, queue_count l ok)) (omega (arith, queue_count l ok)))) ∙ none

-- Demand 3 by single steps.
module _ (l : Lay) (ok : Laid l) (a : Apart l) (r : Rows l) (am : Ample l) (y : Bodies l) (w b : List ℕ) (long : l.words ≤ length w) (f : AllWhite l w) (none : length_of l.queue w ≡ 0)
    (wide : l.bytes ≤ length b) (pause : at w PHASE ≡ 0) (v : Arenas l w) where
  pub c : Collected l w b
  c = collected l ok a am y w b long pause f none

  -- the steps up to and with the atomic one
  abbrev pub marking : ℕ
  marking = c.steps + 2

  abbrev pub h₁ : Heap
  h₁ = singles l (c.steps + 2) (heap w b)

  pub x : Ready l w b h₁
  x =
      let t = subst (λ (h : Heap). Ready l (stored PHASE 1 w) b h) (sym c.state) (atomic_ready l ok a r am y (stored PHASE 1 w) b (omega (arith, long, length-set w PHASE 1)) (stored_white l ok a PHASE phase_counter 1 f) (none_v l ok a am w b long f c.steps none) (advances l b c.steps (start_cycle l w)) (steps_ok l ok a am w b long f c.steps) (steps_noted l ok a am w b long f c.steps)) in
      record {
        paint = repainted_then (low_repainted l ok a r (length-set w PHASE 1) (λ q g h. stored_word PHASE 1 w q (λ e. omega (arith, e, g)))) t.paint;
        bytes = t.bytes;
        white = t.white ∙ ap (λ (n : ℕ). other_white n) (stored_word PHASE 1 w WHITE (omega arith));
        phase = t.phase;
        cursor = t.cursor;
        whole = c.whole;
        exact = c.exact;
      }

  pub d : SweepDone l h₁ (ready_arenas l ok a r w b long f v h₁ x)
  d = sweep_done l ok a r h₁ (ready_arenas l ok a r w b long f v h₁ x) (ready_long l ok a r w b long f v h₁ x) (ready_low l ok a r w b long f v h₁ x) (ready_high l ok a r w b long f v h₁ x) x.phase x.cursor

  abbrev pub h₂ : Heap
  h₂ = singles l d.steps h₁

  pub freed_exactly : Collection l w b v
  freed_exactly = record {
    marking = marking;
    steps = marking + d.steps;
    few = omega (arith, c.few, d.few);
    finalize = ap (λ (h : Heap). at h.words PHASE) all ∙ d.finalize;
    first = λ i h. first i h (dec_lt i marking);
    white = ap (λ (h : Heap). at h.words WHITE) all ∙ d.white ∙ x.white;
    whole = ap (λ (h : Heap). at h.words damage) all ∙ d.kept damage (omega arith) ∙ c.whole;
    arenas = λ k g. subst (λ (h : Heap). Freed l w b k (v k g).free h₁ h) (sym all) (arena_freed l ok a r w b long f v h₁ x wide h₂ d.white d.arenas k g);
  }
    where
      all : singles l (marking + d.steps) (heap w b) ≡ h₂
      all = singles_add l marking d.steps (heap w b)

      first : (i : ℕ) → i < marking + d.steps → Dec (i < marking) → at (singles l i (heap w b)).words PHASE ≢ 4
      first i h (yes p) e = omega (arith, e, c.before i p)
      first i h (no p) e =
          let q : i ≡ marking + (i - marking) = omega (arith, p) in
          d.first (i - marking) (omega (arith, h, p))
          (sym (ap (λ (t : Heap). at t.words PHASE) (ap (λ (n : ℕ). singles l n (heap w b)) q ∙ singles_add l marking (i - marking) (heap w b))) ∙ e)

-- Demand 3 by single steps, for the layout of any sizes within their ranges: from Pause, every occupied slot in the current white,
-- the queue empty and the six arenas well-formed, single steps come to Finalize; at the first state there the slots freed are exactly
-- the occupied ones that are neither kept nor spared, each once.
pub planned_freed : (s : Sizes) → SizesOk s → (w b : List ℕ) → (lay_of s).words ≤ length w → (lay_of s).bytes ≤ length b → at w PHASE ≡ 0 → AllWhite (lay_of s) w → length_of (lay_of s).queue w ≡ 0
    → (v : Arenas (lay_of s) w) → Collection (lay_of s) w b v
planned_freed s h w b long wide pause f none v = freed_exactly (lay_of s) (laid_of s h) (apart s) (rows s) (ample s) (bodies s) w b long f none wide pause v
