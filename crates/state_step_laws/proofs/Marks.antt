-- The single steps of marking keep the state: the roots, one gray object or the main thread, the atomic step. Assumes nothing.
--     start_free        the roots are marked, from Pause or Propagate
--     propagate_free    one gray object, or the main thread
--     atomic_free       the atomic step
use Rattle.std.specs.Prelude.{◌≡◌, refl, ◌⊎◌, ◌≢◌}
use Rattle.std.proofs.Common.{sym, subst, ◌∙◌, inl, inr, ⊎_elim, true≢false, arith, length-set, get_or-set_same}
use Rattle.std.proofs.Math.Path.{ap}
use Rattle.std.proofs.Math.Bool.{true}
use mathlib.Core.List.{List, [], ◌∷◌}
use Prim.Native.Nat.{ℕ, min, ◌+◌, ◌-◌, ◌*◌, ◌≤◌, ◌<◌}
use Rattle.std.proofs.Math.Decide.{ℕ_discrete}
use Rattle.std.proofs.Math.ListN.{length}
use Rattle.std.proofs.Math.Seq.{get_or-set_other}
use Rattle.base.specs.Words.{at, put}
use Rattle.base.specs.Heap.{heap}
use Rattle.layout.specs.declared.Lay.{Lay}
use Rattle.layout.specs.Places.{PROTOTYPES, DAMAGE, PHASE, WHITE, CURSOR_ARENA, CURSOR_SLOT, TOTAL, ESTIMATE, INTERRUPTED}
use Rattle.layout.specs.Layout.{lay_of}
use Rattle.lists.specs.Lists.{length_of, cleared}
use Rattle.laid.specs.Laid.{Laid}
use Rattle.arena.specs.Slots.{used}
use Rattle.mark.specs.Ops.{Work, gray, grayagain, weak, other_white}
use Rattle.mark.specs.Words.{arena_of, list_of, ops}
use Rattle.run_walk.specs.MainThread.{traverse_main_thread}
use Rattle.propagate.specs.declared.Propagated.{Propagated}
use Rattle.propagate.specs.declared.Propagated.TheVariants.{Done, NeedMainThread, Empty}
use Rattle.propagate.specs.Propagation.{goes_on, propagate_one, propagate_all}
use Rattle.propagate.specs.Roots.{clear_lists, mark_roots}
use Rattle.separate.specs.Separation.{separated, mark_tmudata}
use Rattle.clearing.specs.Strings.{keep_all}
use Rattle.clearing.specs.Entries.{clear_all, clear_weak_tables}
use Rattle.atomic.specs.Atomic.{marked, finished, flipped, begun, atomic}
use Rattle.step.specs.Step.{start_cycle, propagated, propagate_step}
use Rattle.arena_laws.specs.Words.{puts_far}
use Rattle.mark_laws.specs.Apart.{Apart, Order, order}
use Rattle.mark_laws.specs.Moves.{Moves, still, emptied, moves_then}
use Rattle.mark_laws.specs.Changes.{Untouched, first, counters, tops, past, Marked, marked_none, moves_marked, colour_in}
use Rattle.mark_laws.specs.RootLinks.{cleared_moves, roots_moves}
use Rattle.mark_laws.specs.MainLinks.{main_moves}
use Rattle.mark_laws.specs.Propagates.{one_moves}
use Rattle.mark_laws.specs.Ends.{one_empty, one_goes}
use Rattle.room_laws.specs.Counts.{is_gray, is_dark}
use Rattle.room_laws.specs.Frames.{OnList, Quiet, quiet_paid}
use Rattle.room_laws.specs.Tallies.{Ample}
use Rattle.room_laws.specs.Payments.{Whole}
use Rattle.room_laws.specs.Steps.{mains_due}
use Rattle.room_laws.proofs.Steps.{whole_less, one_whole, main_whole}
use Rattle.room_laws.proofs.Cycles.{roots_whole}
use Rattle.room_laws.proofs.Queues.{queue_count}
use Rattle.room_laws.specs.Flips.{Low, low_none, cleared_low}
use Rattle.room_laws.proofs.Atomics.{atomic_whole}
use Rattle.atomic_laws.specs.Bodies.{Bodies}
use Rattle.atomic_laws.specs.Separates.{Sorted, separated_sorted}
use Rattle.atomic_laws.specs.Spares.{whitens, Tinted, held}
use Rattle.atomic_laws.proofs.Spares.{keep_all_lem}
use Rattle.atomic_laws.proofs.Survives.{other_white_lem}
use Rattle.sweep_laws.specs.Places.{Rows, top_is}
use Rattle.sweep_laws.proofs.Collections.{other_back}
use Rattle.sweep_laws.specs.Repaints.{Repainted, repainted_then, repainted_keeps, marked_repainted, low_repainted, sorted_repainted, begun_words, flipped_words}
use Rattle.state_laws.specs.State.{Lists, State, state_parted, mains_same, sum_same, nested_same, lists_same, sizes_same}
use Rattle.state_laws.specs.Rooms.{clear_lists_lem, moves_lists}
use Rattle.state_laws.specs.Barriers.{painted_state}
use Rattle.state_step_laws.specs.Clears.{cleared_before}
use Rattle.state_step_laws.specs.Queues.{marked_moves, second_moves, separated_lists}
use Rattle.state_step_laws.specs.Marks.{Free}

module _ (l : Lay) (ok : Laid l) (a : Apart l) (r : Rows l) (am : Ample l) where
  abbrev o : Order l
  o = order l ok a

  -- A word of the header that is no count of a list, nor the damage mark, is none that a tally is read from.
  header_quiet : (p n : ℕ) (w : List ℕ) → p < 69 → p ≢ DAMAGE → Quiet l w (put p n w)
  header_quiet p n w h d = record {
    long = length-set w p n;
    mark = get_or-set_other w p DAMAGE n 0 (λ e. d (sym e));
    lists = lists;
    dark = λ k t i f. ap is_dark (word ((arena_of l k).base + i) (λ e. omega (arith, e, h, (colour_in l ok a k i f).0)));
    grays = λ i f. ap is_gray (word (l.tables.base + i) (λ e. omega (arith, e, h, (colour_in l ok a 1 i f).0)));
  }
    where
      word : (q : ℕ) → q ≢ p → at (put p n w) q ≡ at w q
      word q e = get_or-set_other w p q n 0 e

      lists : (k : Work) (q : ℕ) → OnList (list_of l k) q → at (put p n w) q ≡ at w q
      lists gray q (inl e) = word q (λ z. omega (arith, z, e, h, o.gray))
      lists gray q (inr f) = word q (λ z. omega (arith, z, f.0, h, o.header, a))
      lists grayagain q (inl e) = word q (λ z. omega (arith, z, e, h, o.grayagain))
      lists grayagain q (inr f) = word q (λ z. omega (arith, z, f.0, h, o.header, a))
      lists weak q (inl e) = word q (λ z. omega (arith, z, e, h, o.weak))
      lists weak q (inr f) = word q (λ z. omega (arith, z, f.0, h, o.header, a))

  -- The roots are marked.
  pub start_free : {w b : List ℕ} → at w PHASE ≤ 1 → State l (heap w b) → Free l (heap (start_cycle l w) b)
  unfolding start_cycle
  start_free {w} {b} p s = record {
    state = record {
      sizes = ap lay_of (sizes_same w u (λ x h. word x (omega (arith, h)) (λ e. omega (arith, e, h)) ∙ t.kept x (first (omega (arith, h))))) ∙ s.sizes;
      long = omega (arith, s.long, u_long, t.long);
      wide = s.wide;
      whole = word DAMAGE (omega arith) (omega arith) ∙ h.mark ∙ s.whole;
      low = omega (arith, s.low, now);
      high = omega (arith, s.high, now);
      arenas = λ k g. (repainted_keeps l ok a r (repainted_then (marked_repainted l ok a r t) last) k g (s.arenas k g)).0;
      out = λ d. none;
      empty = λ f. ap (λ (n : ℕ). min n l.queue.room) (word l.queue.count (omega (arith, queue_count l ok)) (λ e. omega (arith, e, queue_count l ok)) ∙ t.kept l.queue.count (tops (omega (arith, queue_count l ok)) (omega (arith, queue_count l ok)))) ∙ s.empty p;
      paid = λ e. quiet_paid (header_quiet PHASE 1 v (omega arith) (omega arith)) h.paid;
      swept = λ d. absurd (d phase);
      lists = lists_same ok a v u (λ x f g. word x (omega (arith, g)) (λ e. omega (arith, e, f))) (moves_lists l ok a moved s.long s.lists);
      mains = mains_same w u (λ x f g. word x (omega (arith, g)) (λ e. omega (arith, e, g)) ∙ t.kept x (first (omega (arith, g)))) s.mains;
      sum = sum_same l w u (word TOTAL (omega arith) (omega arith) ∙ t.kept TOTAL (counters (omega arith) (omega arith)))
          (λ k g. word ((arena_of l k).top + 2) (omega (arith, g, top_is l ok a r k g)) (λ e. omega (arith, e, top_is l ok a r k g)) ∙ t.kept ((arena_of l k).top + 2) (tops (omega (arith, top_is l ok a r k g)) (omega (arith, g, top_is l ok a r k g)))) s.sum;
      nested = nested_same ok a s u (word PROTOTYPES (omega arith) (omega arith) ∙ t.kept PROTOTYPES (first (omega arith)))
          (λ x f g. get_or-set_other v PHASE x 1 0 (λ e. omega (arith, e, f, o.header, a)) ∙ t.kept x (past (omega (arith, f, a))));
    };
    none = none;
  }
    where
      c : List ℕ
      c = clear_lists (ops l) w

      v : List ℕ
      v = mark_roots (ops l) (clear_lists (ops l) w)

      u : List ℕ
      u = put PHASE 1 (mark_roots (ops l) (clear_lists (ops l) w))

      u_long : length u ≡ length v
      u_long = length-set v PHASE 1

      h : Whole l 0 0 0 w v
      h = roots_whole l ok a am w s.long

      moved : Moves l w v
      moved =
          let m : Moves l w c = cleared_moves l (still refl) in
          moves_then m (roots_moves l ok a c (omega (arith, s.long, (moves_marked l ok a m s.long).long)) c marked_none)

      t : Marked l w v
      t = moves_marked l ok a moved s.long

      word : (x : ℕ) → x < 91 → x ≢ PHASE → at u x ≡ at v x
      word x g d = get_or-set_other v PHASE x 1 0 d

      phase : at u PHASE ≡ 1
      phase = get_or-set_same v PHASE 1 0 (omega (arith, s.long, t.long, o.words, o.header, a))

      now : at u WHITE ≡ at w WHITE
      now = word WHITE (omega arith) (omega arith) ∙ t.kept WHITE (counters (omega arith) (omega arith))

      none : at u INTERRUPTED ≡ 0
      none = word INTERRUPTED (omega arith) (omega arith) ∙ t.kept INTERRUPTED (counters (omega arith) (omega arith)) ∙ s.out (λ e. omega (arith, e, p))

      last : Repainted l v u
      last = low_repainted l ok a r u_long (λ q f g. get_or-set_other v PHASE q 1 0 (λ e. omega (arith, e, f)))

  module _ (y : Bodies l) (w b : List ℕ) (s : State l (heap w b)) (p : at w PHASE ≡ 1) where
    -- what is paid for now
    abbrev paid : Whole l 0 0 0 w w
    paid = record { long = refl; mark = refl; paid = s.paid p }

    none_out : at w INTERRUPTED ≡ 0
    none_out = s.out (λ e. omega (arith, e, p))

    -- One gray object, or the main thread.
    moved_free : (u : List ℕ) → Moves l w u → Whole l 0 0 0 w u → Free l (heap u b)
    moved_free u n h =
        let m : Marked l w u = moves_marked l ok a n s.long in
        record {
          state = painted_state l ok a r am p (marked_repainted l ok a r m) m.kept h.mark h.paid (moves_lists l ok a n s.long s.lists) s;
          none = m.kept INTERRUPTED (counters (omega arith) (omega arith)) ∙ none_out;
        }

    -- The atomic step, in its parts.
    abbrev M : List ℕ
    M = marked l b w

    abbrev Z : List ℕ
    Z = (separated l (marked l b w)).1

    abbrev T : List ℕ
    T = mark_tmudata l (separated l (marked l b w)).1

    abbrev F : List ℕ
    F = propagate_all (ops l) l b (mark_tmudata l (separated l (marked l b w)).1)

    first_part : Marked l w (marked l b w)
    first_part = moves_marked l ok a (marked_moves l ok a b w s.long) s.long

    M_long : l.words ≤ length (marked l b w)
    M_long = omega (arith, s.long, first_part.long)

    M_queue : length_of l.queue (marked l b w) ≡ 0
    M_queue =
        ap (λ (n : ℕ). min n l.queue.room) (first_part.kept l.queue.count (tops (omega (arith, queue_count l ok)) (omega (arith, queue_count l ok))))
        ∙ s.empty (omega (arith, p))

    due : Sorted l (at (marked l b w) WHITE) (marked l b w) (used l.userdata (marked l b w)) (separated l (marked l b w)).1
    due = separated_sorted l ok a am y (marked l b w) M_long M_queue

    M_white : at (marked l b w) WHITE ≡ at w WHITE
    M_white = first_part.kept WHITE (counters (omega arith) (omega arith))

    Z_long : l.words ≤ length (separated l (marked l b w)).1
    Z_long = omega (arith, M_long, due.held.long)

    second_part : Marked l (separated l (marked l b w)).1 F
    second_part = moves_marked l ok a (second_moves l ok a b (separated l (marked l b w)).1 Z_long) Z_long

    -- the lists stay within their rooms
    F_lists : Lists l F
    F_lists =
        moves_lists l ok a (second_moves l ok a b (separated l (marked l b w)).1 Z_long) Z_long
        (separated_lists l ok a (marked l b w) M_long am M_queue (moves_lists l ok a (marked_moves l ok a b w s.long) s.long s.lists))

    F_long : l.words ≤ length F
    F_long = omega (arith, Z_long, second_part.long)

    -- words that neither marking nor separation writes
    F_word : (x : ℕ) → (x < 52) ⊎ ((52 < x) × (x < 69)) → at F x ≡ at w x
    F_word x h = second_part.kept x (pick h) ∙ due.held.kept x (λ e. omega (arith, e, queue_count l ok, low h)) (inl (omega (arith, low h, o.header, a))) (omega (arith, low h, o.header, a)) ∙ first_part.kept x (pick h)
      where
        pick : (x < 52) ⊎ ((52 < x) × (x < 69)) → Untouched l x
        pick (inl f) = first f
        pick (inr f) = counters f.0 f.1

        low : (x < 52) ⊎ ((52 < x) × (x < 69)) → x < 69
        low (inl f) = omega (arith, f)
        low (inr f) = f.1

    -- the prototypes
    F_high : (x : ℕ) → l.boundary ≤ x → x < l.stack.base → at F x ≡ at w x
    F_high x f g =
        second_part.kept x (past (omega (arith, f, a)))
        ∙ due.flags.past x f (λ i k e. omega (arith, e, g, (state_parted s).bodies 4 (omega arith)))
        ∙ first_part.kept x (past (omega (arith, f, a)))

    F_white : at F WHITE ≡ at w WHITE
    F_white = F_word WHITE (inr (omega arith, omega arith))

    F_repainted : Repainted l w F
    F_repainted =
        repainted_then (marked_repainted l ok a r first_part)
        (repainted_then (sorted_repainted l ok a r (omega (arith, M_white, s.low)) (omega (arith, M_white, s.high)) (omega arith) due) (marked_repainted l ok a r second_part))

    -- The flip writes the white, and below the boundary else colours of strings and the weak list.
    flips : ((x : ℕ) → (x < 52) ⊎ ((54 < x) × (x < 69)) → at (flipped l b F) x ≡ at F x) × Lists l (flipped l b F) × ((x : ℕ) → l.boundary ≤ x → x < l.stack.base → at (flipped l b F) x ≡ at F x)
    unfolding flipped clear_weak_tables
    flips = (
      (λ x h.
          list.kept x (pick x h)
          ∙ dies.word x (omega (arith, low x h, o.header, a))
          ∙ ap (λ (v : List ℕ). at v x) kept.0
          ∙ kept.1.word x (inl (omega (arith, low x h, o.header, a)))
          ∙ get_or-set_other F WHITE x new 0 (off x h)),
      clear_lists_lem l ok a weak I I_long
          (lists_same ok a F I
          (λ x f g.
          dies.word x (omega (arith, g, o.header, a))
          ∙ ap (λ (v : List ℕ). at v x) kept.0
          ∙ kept.1.word x (inl (omega (arith, g, o.header, a)))
          ∙ get_or-set_other F WHITE x new 0 (λ e. omega (arith, e, f)))
          F_lists),
      (λ x f g.
          list.kept x (past (omega (arith, f, a)))
          ∙ cleared_before l (at F WHITE) x (omega (arith, g, (state_parted s).bodies 1 (omega arith))) b H
          ∙ ap (λ (v : List ℕ). at v x) kept.0
          ∙ kept.1.word x (inr (omega (arith, f, a)))
          ∙ get_or-set_other F WHITE x new 0 (λ e. omega (arith, e, f, o.header, a))),
    )
      where
        new : ℕ
        new = other_white (at F WHITE)

        G : List ℕ
        G = put WHITE (other_white (at F WHITE)) F

        H : List ℕ
        H = keep_all l (other_white (at F WHITE)) (put WHITE (other_white (at F WHITE)) F)

        I : List ℕ
        I = clear_all l b (at F WHITE) (keep_all l (other_white (at F WHITE)) (put WHITE (other_white (at F WHITE)) F))

        kept : (keep_all l new G ≡ whitens l new (held l G) G) × Tinted l G (whitens l new (held l G) G)
        kept = keep_all_lem l ok a new G

        dies : Low l H I
        dies = cleared_low l ok a H (at F WHITE) b H low_none

        H_long : length H ≡ length G
        H_long = ap length kept.0 ∙ kept.1.long

        I_long : l.words ≤ length I
        I_long = omega (arith, F_long, length-set F WHITE new, H_long, dies.long)

        list : Marked l I (cleared l.weak I)
        list = moves_marked l ok a (emptied (still refl) weak refl) I_long

        pick : (x : ℕ) → (x < 52) ⊎ ((54 < x) × (x < 69)) → Untouched l x
        pick x (inl f) = first f
        pick x (inr f) = counters (omega (arith, f.0)) f.1

        low : (x : ℕ) → (x < 52) ⊎ ((54 < x) × (x < 69)) → x < 69
        low x (inl f) = omega (arith, f)
        low x (inr f) = f.1

        off : (x : ℕ) → (x < 52) ⊎ ((54 < x) × (x < 69)) → x ≢ WHITE
        off x (inl f) e = omega (arith, e, f)
        off x (inr f) e = omega (arith, e, f.0)

    -- phase, cursor and estimate are written last
    begun_word : (n x : ℕ) (u : List ℕ) → x ≢ PHASE → x ≢ CURSOR_SLOT → x ≢ CURSOR_ARENA → x ≢ ESTIMATE → at (begun n u) x ≡ at u x
    unfolding begun
    begun_word n x u c d e f = puts_far ((PHASE, 2) ∷ (CURSOR_SLOT, 0) ∷ (CURSOR_ARENA, 0) ∷ (ESTIMATE, at u TOTAL - 48 * n) ∷ []) u x (c, (d, (e, (f, tt))))

    early : (n x : ℕ) → x < 52 → at (begun n (flipped l b F)) x ≡ at w x
    early n x h =
        begun_word n x (flipped l b F) (λ e. omega (arith, e, h)) (λ e. omega (arith, e, h)) (λ e. omega (arith, e, h)) (λ e. omega (arith, e, h))
        ∙ flips.0 x (inl h) ∙ F_word x (inl h)

    late : (n x : ℕ) → 59 < x → x < 69 → at (begun n (flipped l b F)) x ≡ at w x
    late n x h g =
        begun_word n x (flipped l b F) (λ e. omega (arith, e, h)) (λ e. omega (arith, e, h)) (λ e. omega (arith, e, h)) (λ e. omega (arith, e, h))
        ∙ flips.0 x (inr (omega (arith, h), g)) ∙ F_word x (inr (omega (arith, h), g))

    total_same : (n : ℕ) → at (begun n (flipped l b F)) TOTAL ≡ at w TOTAL
    total_same n =
        begun_word n TOTAL (flipped l b F) (omega arith) (omega arith) (omega arith) (omega arith) ∙ flips.0 TOTAL (inr (omega arith, omega arith)) ∙ F_word TOTAL (inr (omega arith, omega arith))

    -- The atomic step.
    pub atomic_free : Free l (heap (atomic l b w) b)
    unfolding atomic finished
    atomic_free =
        let n : ℕ = (separated l (marked l b w)).0 in
        let g = flipped_words l ok a r b F F_long (omega (arith, F_white, s.low)) (omega (arith, F_white, s.high)) in
        let k = begun_words l ok a r n (flipped l b F) (omega (arith, F_long, g.0.long)) in
        let c = repainted_then F_repainted (repainted_then g.0 k.0) in
        let white = k.1 ∙ g.1 ∙ ap (λ (x : ℕ). other_white x) F_white in
        let none : at (begun n (flipped l b F)) INTERRUPTED ≡ 0 = late n INTERRUPTED (omega arith) (omega arith) ∙ none_out in
        let back = other_back (at w WHITE) s.low s.high in
        let other = other_white_lem (at w WHITE) s.low s.high in
        record {
          state = record {
            sizes = ap lay_of (sizes_same w (begun n (flipped l b F)) (λ x h. early n x (omega (arith, h)))) ∙ s.sizes;
            long = omega (arith, s.long, c.long);
            wide = s.wide;
            whole = atomic_whole l ok a am b w s.long (s.paid p) (s.empty (omega (arith, p))) ∙ s.whole;
            low = omega (arith, white, other.0);
            high = omega (arith, white, back.1);
            arenas = λ j i. (repainted_keeps l ok a r c j i (s.arenas j i)).0;
            out = λ d. none;
            empty = λ f. absurd (let z : ⊥ = omega (arith, f, k.2) in z);
            paid = λ e. absurd (let z : ⊥ = omega (arith, e, k.2) in z);
            swept = λ d. record {
              arena = 0;
              slot = 0;
              most = omega arith;
              strings = λ e. (k.2, k.3);
              others = λ e f. absurd (let z : ⊥ = omega (arith, e) in z);
              ended = λ e. absurd (let z : ⊥ = omega (arith, e) in z);
              within = λ i. omega arith;
              white = λ j i f g h. absurd (⊎_elim (λ z. let t : ⊥ = omega (arith, z) in t) (λ z. let t : ⊥ = omega (arith, z.1) in t) h);
            };
            lists = lists_same ok a (flipped l b F) (begun n (flipped l b F))
                (λ x f g. begun_word n x (flipped l b F) (λ e. omega (arith, e, f)) (λ e. omega (arith, e, f)) (λ e. omega (arith, e, f)) (λ e. omega (arith, e, f))) flips.1;
            mains = mains_same w (begun n (flipped l b F)) (λ x f g. early n x (omega (arith, g))) s.mains;
            sum = sum_same l w (begun n (flipped l b F)) (total_same n) (λ j i. c.header ((arena_of l j).top + 2) (omega (arith, top_is l ok a r j i)) (omega (arith, i, top_is l ok a r j i))) s.sum;
            nested = nested_same ok a s (begun n (flipped l b F)) (early n PROTOTYPES (omega arith))
                (λ x f g. begun_word n x (flipped l b F) (λ e. omega (arith, e, f, o.header, a)) (λ e. omega (arith, e, f, o.header, a)) (λ e. omega (arith, e, f, o.header, a)) (λ e. omega (arith, e, f, o.header, a)) ∙ flips.2 x f g ∙ F_high x f g);
          };
          none = none;
        }

    -- A step during Propagate.
    pub propagate_free : Free l (heap (propagate_step l b w).1 b)
    unfolding propagate_step
    propagate_free = pick (ℕ_discrete (length_of l.gray w) 0)
      where
        go : (x : Propagated × List ℕ) → Moves l w x.1 → Whole l 0 0 (0 + mains_due x.0) w x.1 → goes_on x.0 ≡ true → Free l (heap (propagated l b x).1 b)
        go (Done c, u) m h e = moved_free u m (whole_less h 0 0 0 (omega arith) (omega arith) (omega arith))
        go (NeedMainThread, u) m h e =
            let u_long : l.words ≤ length u = omega (arith, s.long, (moves_marked l ok a m s.long).long) in
            moved_free (traverse_main_thread (ops l) l u).1 (moves_then m (main_moves l ok a u u_long u marked_none)) (main_whole l ok a am w s.long h)
        go (Empty, u) m h e = absurd (true≢false (sym e))

        pick : Dec (length_of l.gray w ≡ 0) → Free l (heap (propagated l b (propagate_one (ops l) l b w)).1 b)
        pick (yes e) = subst (λ (x : Propagated × List ℕ). Free l (heap (propagated l b x).1 b)) (sym (one_empty l ok a b w e)) atomic_free
        pick (no d) = go (propagate_one (ops l) l b w) (one_moves l ok a b w s.long) (one_whole l ok a am w s.long b paid) (one_goes l ok a b w d)
