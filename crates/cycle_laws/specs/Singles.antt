-- Single steps from Pause: the roots, then one gray object or the main thread after the other, then the atomic step. Assumes nothing.
--     singles             n single steps
--     start_step, gray_step, atomic_step     what a single step is at Pause, and during Propagate
--     advanced_less       each makes the words lighter, so nothing is gray in the end
--     until_atomic        the state after n + 2 steps, for some n, is the one after the atomic step
use Rattle.std.specs.Prelude.{◌≡◌, ◌≢◌, length}
use Rattle.std.proofs.Math.Path.{refl, ap}
use Rattle.std.proofs.Common.{sym, ◌∙◌, true≢false}
use Rattle.std.proofs.Math.Bool.{true}
use mathlib.Core.List.{List}
use Prim.Native.Nat.{ℕ, zero, suc, ◌+◌, ◌≤◌, ◌<◌}
use Rattle.std.proofs.Math.Decide.{ℕ_discrete}
use native.Mathlib.Omega.{arith}
use Rattle.std.proofs.Math.ListN.{length-set}
use Rattle.std.proofs.Math.Seq.{get_or-set_same}
use Rattle.base.specs.Ways.{eq_yes, eq_no}
use Rattle.base.specs.Words.{at}
use Rattle.base.specs.Heap.{Heap, heap}
use Rattle.layout.specs.declared.Lay.{Lay}
use Rattle.layout.specs.Places.{PHASE}
use Rattle.lists.specs.Lists.{length_of}
use Rattle.laid.specs.Laid.{Laid}
use Rattle.mark.specs.Words.{ops}
use Rattle.run_walk.specs.MainThread.{traverse_main_thread}
use Rattle.propagate.specs.declared.Propagated.{Propagated}
use Rattle.propagate.specs.declared.Propagated.TheVariants.{Done, NeedMainThread, Empty}
use Rattle.propagate.specs.Propagation.{goes_on, rounds, propagate_one}
use Rattle.propagate.specs.Roots.{clear_lists, mark_roots}
use Rattle.atomic.specs.Atomic.{atomic}
use Rattle.step.specs.declared.Single.{Single}
use Rattle.step.specs.declared.Single.TheVariants.{Cost}
use Rattle.step.specs.Step.{start_cycle, propagated, propagate_step, costs, single_step}
use Rattle.mark_laws.specs.Apart.{Apart, Order, order}
use Rattle.mark_laws.specs.Moves.{still}
use Rattle.mark_laws.specs.Changes.{counters, Marked, marked_none, marked_then, moves_marked}
use Rattle.mark_laws.specs.RootLinks.{cleared_moves, roots_moves}
use Rattle.mark_laws.specs.MainLinks.{main_moves}
use Rattle.mark_laws.specs.Propagates.{one_moves}
use Rattle.mark_laws.specs.Weights.{weight, weight_most}
use Rattle.mark_laws.specs.Ends.{one_empty, one_goes, one_less}
use Rattle.mark_laws.specs.Stocks.{main_spends}
use Rattle.reach.specs.Cycle.{advanced, advances}

-- n single steps.
unfoldable pub singles : Lay → ℕ → Heap → Heap
singles l zero h = h
singles l (suc n) h = singles l n (single_step l h).1

-- one more at the end
pub singles_last : (l : Lay) (n : ℕ) (h : Heap) → singles l (n + 1) h ≡ (single_step l (singles l n h)).1
unfolding singles
singles_last l zero h = refl
singles_last l (suc n) h =
    let q : suc n + 1 ≡ suc (n + 1) = omega arith in
    ap (λ (k : ℕ). singles l k h) q ∙ singles_last l n (single_step l h).1

-- At Pause a single step marks the roots,
pub start_step : (l : Lay) (w b : List ℕ) → at w PHASE ≡ 0 → (single_step l (heap w b)).1 ≡ heap (start_cycle l w) b
unfolding single_step
start_step l w b e = ap (λ (x : Single × Heap). x.1) (sym (eq_yes (at w PHASE) 0 (Cost 0, heap (start_cycle l w) b) _ _ e refl))

-- during Propagate it is the step of that phase,
propagate_step_lem : (l : Lay) (w b : List ℕ) → at w PHASE ≡ 1 → (single_step l (heap w b)).1 ≡ heap (propagate_step l b w).1 b
unfolding single_step
propagate_step_lem l w b e =
    ap (λ (x : Single × Heap). x.1)
    (sym (eq_no (at w PHASE) 0 (Cost 0, heap (start_cycle l w) b) _ _ (λ z. omega (arith, z, e)) (eq_yes (at w PHASE) 1 (costs (propagate_step l b w) b) _ (costs (propagate_step l b w) b) e refl)))

module _ (l : Lay) (ok : Laid l) (a : Apart l) (b : List ℕ) where
  abbrev o : Order l
  o = order l ok a

  -- one gray object, or the main thread,
  pub gray_step : (u : List ℕ) → at u PHASE ≡ 1 → length_of l.gray u ≢ 0 → (single_step l (heap u b)).1 ≡ heap (advanced l (propagate_one (ops l) l b u)) b
  unfolding propagate_step
  gray_step u e d = propagate_step_lem l u b e ∙ ap (λ (x : List ℕ). heap x b) (go (propagate_one (ops l) l b u) (one_goes l ok a b u d))
    where
      go : (x : Propagated × List ℕ) → goes_on x.0 ≡ true → (propagated l b x).1 ≡ advanced l x
      go (Done c, y) g = refl
      go (NeedMainThread, y) g = refl
      go (Empty, y) g = absurd (true≢false (sym g))

  -- or, where nothing is gray, the atomic step.
  pub atomic_step : (u : List ℕ) → at u PHASE ≡ 1 → length_of l.gray u ≡ 0 → (single_step l (heap u b)).1 ≡ heap (atomic l b u) b
  unfolding propagate_step
  atomic_step u e d = propagate_step_lem l u b e ∙ ap (λ (x : Propagated × List ℕ). heap (propagated l b x).1 b) (one_empty l ok a b u d)

  -- A step during Propagate is marking,
  pub advanced_marked : (u : List ℕ) → l.words ≤ length u → Marked l u (advanced l (propagate_one (ops l) l b u))
  advanced_marked u long = go (propagate_one (ops l) l b u) (moves_marked l ok a (one_moves l ok a b u long) long)
    where
      go : (x : Propagated × List ℕ) → Marked l u x.1 → Marked l u (advanced l x)
      go (Done c, y) m = m
      go (NeedMainThread, y) m =
          let y_long : l.words ≤ length y = omega (arith, long, m.long) in
          marked_then m (moves_marked l ok a (main_moves l ok a y y_long y marked_none) y_long)
      go (Empty, y) m = m

  -- and makes the words lighter.
  pub advanced_less : (u : List ℕ) → l.words ≤ length u → length_of l.gray u ≢ 0 → weight l (advanced l (propagate_one (ops l) l b u)) + 1 ≤ weight l u
  advanced_less u long d = go (propagate_one (ops l) l b u) (moves_marked l ok a (one_moves l ok a b u long) long) (one_less l ok a b u long d)
    where
      sums : (x y z : ℕ) → x ≤ y → y + 1 ≤ z → x + 1 ≤ z
      sums x y z f g = omega (arith, f, g)

      go : (x : Propagated × List ℕ) → Marked l u x.1 → weight l x.1 + 1 ≤ weight l u → weight l (advanced l x) + 1 ≤ weight l u
      go (Done c, y) m h = h
      go (NeedMainThread, y) m h = sums (weight l (traverse_main_thread (ops l) l y).1) (weight l y) (weight l u) (main_spends l ok a y (omega (arith, long, m.long))).light.less h
      go (Empty, y) m h = h

  -- So from words in Propagate there is a number of steps, at most k, after which nothing is gray; until then the phase stays.
  abbrev pub Empties : ℕ → List ℕ → Type 0
  Empties k u =
      (n : ℕ) × (n ≤ k) × (length_of l.gray (advances l b n u) ≡ 0) × (singles l n (heap u b) ≡ heap (advances l b n u) b) × (at (advances l b n u) PHASE ≡ 1)
      × ((i : ℕ) → i ≤ n → at (singles l i (heap u b)).words PHASE ≡ 1)

  -- none at all
  at_once : (k : ℕ) (u : List ℕ) → at u PHASE ≡ 1 → length_of l.gray u ≡ 0 → Empties k u
  unfolding advances singles
  at_once k u e d = (0, omega arith, d, refl, e, only)
    where
      only : (i : ℕ) → i ≤ 0 → at (singles l i (heap u b)).words PHASE ≡ 1
      only zero h = e
      only (suc i) h = absurd (let z : ⊥ = omega (arith, h) in z)

  pub until_empty : (k : ℕ) (u : List ℕ) → l.words ≤ length u → at u PHASE ≡ 1 → weight l u ≤ k → Empties k u
  unfolding advances singles
  until_empty zero u long e h = at_once 0 u e (none (length_of l.gray u) (weight l u) (omega arith) h)
    where
      none : (x y : ℕ) → x ≤ y → y ≤ 0 → x ≡ 0
      none x y f g = omega (arith, f, g)
  until_empty (suc k) u long e h =
      let m = advanced_marked u long in
      go (ℕ_discrete (length_of l.gray u) 0)
      (λ d. until_empty k (advanced l (propagate_one (ops l) l b u)) (omega (arith, long, m.long)) (m.kept PHASE (counters (omega arith) (omega arith)) ∙ e)
      (less (weight l (advanced l (propagate_one (ops l) l b u))) (weight l u) (advanced_less u long d) h))
    where
      less : (x y : ℕ) → x + 1 ≤ y → y ≤ suc k → x ≤ k
      less x y f g = omega (arith, f, g)

      v : List ℕ
      v = advanced l (propagate_one (ops l) l b u)

      go : Dec (length_of l.gray u ≡ 0) → (length_of l.gray u ≢ 0 → Empties k (advanced l (propagate_one (ops l) l b u))) → Empties (suc k) u
      go (yes d) rest = at_once (suc k) u e d
      go (no d) rest =
          let r = rest d in
          (suc r.0, omega (arith, r.1), r.2, ap (singles l r.0) (gray_step u e d) ∙ r.3, r.4, stays r.0 r.5)
        where
          stays : (n : ℕ) → ((i : ℕ) → i ≤ n → at (singles l i (heap v b)).words PHASE ≡ 1) → (i : ℕ) → i ≤ suc n → at (singles l i (heap u b)).words PHASE ≡ 1
          stays n rest zero f = e
          stays n rest (suc i) f = ap (λ (x : Heap). at (singles l i x).words PHASE) (gray_step u e d) ∙ rest i (omega (arith, f))

  -- the roots are marked, and the phase is Propagate
  pub started_phase : (w : List ℕ) → l.words ≤ length w → (length (start_cycle l w) ≡ length w) × (at (start_cycle l w) PHASE ≡ 1)
  unfolding start_cycle
  started_phase w long =
      let m : Marked l w (clear_lists (ops l) w) = moves_marked l ok a (cleared_moves l (still refl)) long in
      let k : Marked l (clear_lists (ops l) w) (mark_roots (ops l) (clear_lists (ops l) w)) =
      moves_marked l ok a (roots_moves l ok a (clear_lists (ops l) w) (omega (arith, long, m.long)) (clear_lists (ops l) w) marked_none) (omega (arith, long, m.long)) in (
        length-set (mark_roots (ops l) (clear_lists (ops l) w)) PHASE 1 ∙ k.long ∙ m.long,
        get_or-set_same (mark_roots (ops l) (clear_lists (ops l) w)) PHASE 1 0 (omega (arith, long, m.long, k.long, o.words, o.header, a)),
      )

  -- From Pause: for some n, at most as many as propagation may have, the state after n + 2 single steps is the one after the atomic
  -- step; before it the phase is Pause or Propagate.
  pub until_atomic : (w : List ℕ) → l.words ≤ length w → at w PHASE ≡ 0
      → (n : ℕ) × (n ≤ rounds l) × (length_of l.gray (advances l b n (start_cycle l w)) ≡ 0) × (singles l (n + 2) (heap w b) ≡ heap (atomic l b (advances l b n (start_cycle l w))) b)
      × ((i : ℕ) → i < n + 2 → at (singles l i (heap w b)).words PHASE ≤ 1)
  unfolding singles
  until_atomic w long e =
      let p = started_phase w long in
      let r = until_empty (rounds l) (start_cycle l w) (omega (arith, long, p.0)) p.1 (omega (arith, weight_most l (start_cycle l w))) in
      let n = r.0 in
      let q : n + 2 ≡ suc (n + 1) = omega arith in (
        n,
        r.1,
        r.2,
        ap (λ (k : ℕ). singles l k (heap w b)) q
            ∙ ap (singles l (n + 1)) (start_step l w b e)
            ∙ singles_last l n (heap (start_cycle l w) b)
            ∙ ap (λ (h : Heap). (single_step l h).1) r.3
            ∙ atomic_step (advances l b n (start_cycle l w)) r.4 r.2,
        before n r.5,
      )
    where
      before : (n : ℕ) → ((i : ℕ) → i ≤ n → at (singles l i (heap (start_cycle l w) b)).words PHASE ≡ 1) → (i : ℕ) → i < n + 2 → at (singles l i (heap w b)).words PHASE ≤ 1
      before n rest zero f = omega (arith, e)
      before n rest (suc i) f = omega (arith, ap (λ (x : Heap). at (singles l i x).words PHASE) (start_step l w b e), rest i (omega (arith, f)))
