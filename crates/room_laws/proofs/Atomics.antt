-- The atomic phase stays within the rooms. Assumes nothing.
--     atomic_whole          from lists that are paid for and an empty queue the damage mark is as it was
--     cycle_whole           so it is from marked roots, whatever was done until the atomic phase
use Rattle.std.specs.Prelude.{◌≡◌, List}
use Rattle.std.proofs.Math.Path.{ap}
use Rattle.std.proofs.Common.{◌∙◌, arith}
use Prim.Native.Nat.{ℕ, min, ◌≤◌}
use Rattle.std.proofs.Math.ListN.{length}
use Rattle.base.specs.Words.{at}
use Rattle.layout.specs.declared.Lay.{Lay}
use Rattle.lists.specs.Lists.{damage, length_of}
use Rattle.laid.specs.Laid.{Laid}
use Rattle.separate.specs.Separation.{separated, mark_tmudata}
use Rattle.atomic.specs.Atomic.{marked, finished, flipped, atomic}
use Rattle.mark_laws.specs.Apart.{Apart}
use Rattle.mark_laws.specs.Changes.{tops, moves_marked}
use Rattle.mark_laws.specs.Propagates.{all_moves}
use Rattle.mark_laws.specs.Stocks.{clean_spends}
use Rattle.mark_laws.specs.Rooms.{Roomy, spends_roomy, all_roomy}
use Rattle.room_laws.specs.Tallies.{tally, Paid, Ample}
use Rattle.room_laws.specs.Cycles.{Propagating}
use Rattle.room_laws.proofs.Cycles.{propagating_whole}
use Rattle.room_laws.proofs.Walks.{marked_roomy}
use Rattle.room_laws.proofs.Queues.{queue_count, separated_held, held_roomy, held_mark, queued_clean}
use Rattle.room_laws.specs.Flips.{flipped_mark, begun_mark}

module _ (l : Lay) (ok : Laid l) (a : Apart l) (am : Ample l) (b : List ℕ) where
  -- Separation from an empty queue, the marking of what is queued, all gray: within the rooms, and no damage.
  finished_roomy : (w : List ℕ) → l.words ≤ length w → length_of l.queue w ≡ 0 → Roomy l w
      → (length (finished l b w).1 ≡ length w) × (at (finished l b w).1 damage ≡ at w damage)
  unfolding finished
  finished_roomy w long none r =
      let h = separated_held l ok a am w long none in
      let s = (separated l w).1 in
      let long₁ : l.words ≤ length s = omega (arith, long, h.long) in
      let c = queued_clean l ok a s long₁ in
      let long₂ : l.words ≤ length (mark_tmudata l s) = omega (arith, long₁, c.light.marked.long) in
      let q = spends_roomy l ok a (clean_spends c) (held_roomy l ok a h r) in
      let p = all_roomy l ok a b (mark_tmudata l s) long₂ q.0 in (
        (moves_marked l ok a (all_moves l ok a b (mark_tmudata l s) long₂) long₂).long ∙ c.light.marked.long ∙ h.long,
        p.1 ∙ q.1 ∙ held_mark l ok a h,
      )

  -- From lists that are paid for and an empty queue the atomic phase leaves the damage mark as it was: walking the main thread
  -- and grayagain, all gray, separation, what the due reach, the flip and the clearing of weak tables push nothing onto a
  -- full list.
  pub atomic_whole : (w : List ℕ) → l.words ≤ length w → Paid (tally l w) 0 0 0 → length_of l.queue w ≡ 0 → at (atomic l b w) damage ≡ at w damage
  unfolding atomic
  atomic_whole w long h none =
      let r = marked_roomy l ok a am b w long h in
      let v = marked l b w in
      let same : length_of l.queue v ≡ length_of l.queue w = ap (λ (n : ℕ). min n l.queue.room) (r.0.kept l.queue.count (tops (omega (arith, queue_count l ok)) (omega (arith, queue_count l ok)))) in
      let f = finished_roomy v (omega (arith, long, r.0.long)) (same ∙ none) r.1 in
      begun_mark (finished l b v).0 (flipped l b (finished l b v).1)
      ∙ flipped_mark l ok a b (finished l b v).1 (omega (arith, long, r.0.long, f.0))
      ∙ f.1
      ∙ r.2

  -- So from marked roots, after any propagation with its barriers and whatever else was done meanwhile, the atomic phase with
  -- an empty queue leaves the damage mark as it was before the roots were marked.
  pub cycle_whole : (w : List ℕ) → l.words ≤ length w → {u : List ℕ} → Propagating l w 0 u → length_of l.queue u ≡ 0 → at (atomic l b u) damage ≡ at w damage
  cycle_whole w long {u} p none =
      let h = propagating_whole l ok a am w long p in
      atomic_whole u (omega (arith, long, h.long)) h.paid none ∙ h.mark
