-- A collection by single steps, from Pause to the first state whose phase is SweepString: what is in the old white then is exactly
-- what is to be freed, and no damage is marked. Assumes nothing.
--     started_ok, started_noted     the first single step: the roots are marked
--     started_marked                marked is reached, as marked_exact, from the first single step on
--     started_exact, started_whole  the atomic phase, as atomic_exact and atomic_whole
--     collected, planned_collected     the single steps from Pause up to the atomic step; for the layout of any sizes
use Rattle.std.specs.Prelude.{◌≡◌, ◌⊎◌, ◌↔◌, ◌≢◌, ℕ, min, ◌+◌, ◌≤◌, ◌<◌, length}
use Rattle.std.proofs.Math.Path.{sym, subst}
use Rattle.std.proofs.Common.{ap, ◌∙◌, arith, length-set}
use mathlib.Core.List.{List, [], Memᴰ}
use Rattle.std.proofs.Math.Logic.{inl, inr, ⊎_elim}
use Rattle.base.specs.Words.{at}
use Rattle.base.specs.Heap.{heap}
use Rattle.layout.specs.declared.Sizes.{Sizes}
use Rattle.layout.specs.declared.Lay.{Lay}
use Rattle.layout.specs.Sizes.{SizesOk}
use Rattle.layout.specs.Layout.{lay_of}
use Rattle.layout.specs.Places.{PHASE, WHITE}
use Rattle.lists.specs.Lists.{damage, length_of}
use Rattle.laid.specs.Laid.{Laid, laid_of}
use Rattle.mark.specs.Ops.{Ref}
use Rattle.mark.specs.Words.{colour_w}
use Rattle.propagate.specs.Propagation.{rounds}
use Rattle.atomic.specs.Atomic.{marked, atomic}
use Rattle.step.specs.Step.{start_cycle}
use Rattle.link_laws.specs.Roots.{root_links_same}
use Rattle.mark_laws.specs.Apart.{Apart, apart, Order, order}
use Rattle.mark_laws.specs.Changes.{tops}
use Rattle.room_laws.specs.Tallies.{Ample}
use Rattle.room_laws.proofs.Tallies.{ample}
use Rattle.room_laws.proofs.Payments.{whole_long}
use Rattle.room_laws.proofs.Queues.{queue_count}
use Rattle.room_laws.proofs.Atomics.{atomic_whole}
use Rattle.reach.specs.Reached.{Occupied, Root, Reached}
use Rattle.reach.specs.Cycle.{AllWhite, advances}
use Rattle.reach.specs.Oks.{Ok}
use Rattle.reach.specs.Exact.{None, First}
use Rattle.reach.proofs.Exact.{ok_exact, start_ok, advances_ok, marked_ok}
use Rattle.atomic_laws.specs.Kept.{Kept, Spared}
use Rattle.atomic_laws.specs.Bodies.{Bodies, bodies}
use Rattle.atomic_laws.specs.Notes.{Noted}
use Rattle.atomic_laws.proofs.Notings.{rooted_noted, advances_noted, marked_noted}
use Rattle.atomic_laws.proofs.Survives.{flipped_exact}
use Rattle.atomic_laws.proofs.Alikes.{alike_back, root_alike, reached_alike, kept_alike, spared_alike}
use Rattle.cycle_laws.specs.Counters.{stored, phase_counter, stored_word, stored_shade, stored_alike, stored_ok, stored_noted, stored_white}
use Rattle.cycle_laws.specs.Singles.{singles, until_atomic}

-- There is a frame.
pub frame_one : (l : Lay) → Laid l → 1 ≤ l.frames.room
unfolding Laid
frame_one l ok = ok.one_frame

module _ (l : Lay) (ok : Laid l) (a : Apart l) (am : Ample l) (w b : List ℕ) (long : l.words ≤ length w) (f : AllWhite l w) where
  abbrev o : Order l
  o = order l ok a

  -- the words before the collection, with the phase that the first step sets
  abbrev v : List ℕ
  v = stored PHASE 1 w

  v_long : l.words ≤ length v
  v_long = omega (arith, long, length-set w PHASE 1)

  -- The first single step marks the roots, and sets the phase.
  pub started_ok : Ok l v b (Root l v b) (First l v) None 0 0 0 [] (start_cycle l w)
  unfolding start_cycle
  started_ok =
      stored_ok l ok a PHASE phase_counter 1 (frame_one l ok) long (root_alike (frame_one l ok) b (stored_alike l ok a PHASE phase_counter 1 w))
      (λ x m. subst (λ rs. Memᴰ x rs) (root_links_same l (stored_alike l ok a PHASE phase_counter 1 w).reads.header) m)
      (start_ok l ok a am w b long f)

  pub started_noted : Noted l v b (start_cycle l w)
  unfolding start_cycle
  started_noted = stored_noted l ok a PHASE phase_counter 1 (rooted_noted l ok a am w b long f)

  module _ (n : ℕ) where
    abbrev u : List ℕ
    u = advances l b n (start_cycle l w)

    pub steps_ok : Ok l v b (Root l v b) (First l v) None 0 0 0 [] u
    steps_ok = advances_ok l ok a am v b v_long n (start_cycle l w) started_ok

    pub steps_noted : Noted l v b u
    steps_noted = advances_noted l ok a am v b v_long n (start_cycle l w) started_ok started_noted

    -- Marked is reached: from the first single step on, after any number of steps during Propagate and the first part of the atomic
    -- phase.
    pub started_marked : (r : Ref) → (3 ≤ colour_w l r (marked l b u)) ↔ Reached l w b r
    started_marked r =
        let d = marked_ok l ok a am v b v_long u steps_ok in
        let k = ok_exact l ok a am v b v_long (λ x m. m) d.1 d.0 r in
        let s = stored_alike l ok a PHASE phase_counter 1 w in
        ((λ m. reached_alike (frame_one l ok) b (alike_back s) r (k.0 m)), λ m. k.1 (reached_alike (frame_one l ok) b s r m))

    module _ (none : length_of l.queue w ≡ 0) where
      pub none_v : length_of l.queue v ≡ 0
      none_v = ap (λ (k : ℕ). min k l.queue.room) (stored_word PHASE 1 w l.queue.count (λ e. omega (arith, e, queue_count l ok))) ∙ none

      -- After the atomic phase an occupied slot is not in the old white exactly if it is kept or spared.
      pub started_exact : Bodies l → (r : Ref) → Occupied l w r → (colour_w l r (atomic l b u) ≢ at w WHITE) ↔ (Kept l w b r ⊎ Spared l w b r)
      unfolding atomic
      started_exact y r i =
          let d = marked_ok l ok a am v b v_long u steps_ok in
          let m = marked_noted l ok a am v b v_long u steps_ok steps_noted in
          let s = stored_alike l ok a PHASE phase_counter 1 w in
          let k = flipped_exact l ok a am y v b v_long (stored_white l ok a PHASE phase_counter 1 f) none_v (marked l b u) d.0 d.1 m _ r (subst (λ c. 1 ≤ c) (sym (stored_shade l ok a PHASE phase_counter 1 w r)) i) in
          let same : at v WHITE ≡ at w WHITE = stored_word PHASE 1 w WHITE (omega arith) in (
            (λ h. ⊎_elim (λ j. inl (kept_alike (frame_one l ok) b (alike_back s) r j)) (λ j. inr (spared_alike (frame_one l ok) b (alike_back s) r j)) (k.0 (λ z. h (z ∙ same)))),
            λ h z. k.1 (⊎_elim (λ j. inl (kept_alike (frame_one l ok) b s r j)) (λ j. inr (spared_alike (frame_one l ok) b s r j)) h) (z ∙ sym same),
          )

      -- And no damage is marked.
      pub started_whole : at (atomic l b u) damage ≡ at w damage
      started_whole =
          let q : length_of l.queue u ≡ 0 = ap (λ (k : ℕ). min k l.queue.room) (steps_ok.marked.kept l.queue.count (tops (omega (arith, queue_count l ok)) (omega (arith, queue_count l ok)))) ∙ none_v in
          atomic_whole l ok a am b u (whole_long l ok a am v v_long steps_ok.whole) steps_ok.whole.paid q ∙ steps_ok.whole.mark ∙ stored_word PHASE 1 w damage (omega arith)

-- The single steps from Pause, every occupied slot in the current white and the queue empty: after n + 2 of them, for some n, the
-- atomic step is done; an occupied slot is not in the old white then exactly if it is kept or spared, and no damage was marked.
-- Before them the phase is Pause or Propagate.
pub record Collected (l : Lay) (w b : List ℕ) : Type 0 where
  pub steps : ℕ
  pub few : steps ≤ rounds l
  pub state : singles l (steps + 2) (heap w b) ≡ heap (atomic l b (advances l b steps (start_cycle l w))) b
  pub exact : (r : Ref) → Occupied l w r → (colour_w l r (singles l (steps + 2) (heap w b)).words ≢ at w WHITE) ↔ (Kept l w b r ⊎ Spared l w b r)
  pub whole : at (singles l (steps + 2) (heap w b)).words damage ≡ at w damage
  pub before : (i : ℕ) → i < steps + 2 → at (singles l i (heap w b)).words PHASE ≤ 1

pub collected : (l : Lay) → Laid l → Apart l → Ample l → Bodies l → (w b : List ℕ) → l.words ≤ length w → at w PHASE ≡ 0 → AllWhite l w → length_of l.queue w ≡ 0 → Collected l w b
collected l ok a am y w b long e f none =
    let r = until_atomic l ok a b w long e in
    record {
      steps = r.0;
      few = r.1;
      state = r.3;
      exact = λ x i. subst (λ (h : List ℕ). (colour_w l x h ≢ at w WHITE) ↔ (Kept l w b x ⊎ Spared l w b x)) (sym (ap (λ h. h.words) r.3)) (started_exact l ok a am w b long f r.0 none y x i);
      whole = ap (λ h. at h.words damage) r.3 ∙ started_whole l ok a am w b long f r.0 none;
      before = r.4;
    }

-- So for the layout of any sizes within their ranges.
pub planned_collected : (s : Sizes) → SizesOk s → (w b : List ℕ) → (lay_of s).words ≤ length w → at w PHASE ≡ 0 → AllWhite (lay_of s) w → length_of (lay_of s).queue w ≡ 0 → Collected (lay_of s) w b
planned_collected s h w b long e f none = collected (lay_of s) (laid_of s h) (apart s) (ample s) (bodies s) w b long e f none
