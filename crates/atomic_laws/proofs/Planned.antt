-- The theorems for the layout of any sizes within their ranges: what they ask of a layout then holds, and premises on the words
-- are all that is left. Assumes nothing.
--     planned_whole       a collection up to the end of the atomic phase leaves the damage mark
--     planned_marked      marked is reached
--     planned_exact       after the atomic phase the old white is exactly what is to be freed
use Rattle.std.specs.Prelude.{◌≡◌, List, ◌⊎◌, ◌↔◌, ◌≢◌, ℕ, ◌≤◌, length}
use Rattle.base.specs.Words.{at}
use Rattle.layout.specs.declared.Sizes.{Sizes}
use Rattle.layout.specs.Sizes.{SizesOk}
use Rattle.layout.specs.Layout.{lay_of}
use Rattle.layout.specs.Places.{WHITE}
use Rattle.lists.specs.Lists.{damage, length_of}
use Rattle.mark.specs.Ops.{Ref}
use Rattle.mark.specs.Words.{colour_w}
use Rattle.atomic.specs.Atomic.{marked, atomic}
use Rattle.laid.specs.Laid.{laid_of}
use Rattle.mark_laws.specs.Apart.{apart}
use Rattle.room_laws.proofs.Tallies.{ample}
use Rattle.room_laws.specs.Cycles.{Propagating}
use Rattle.room_laws.proofs.Atomics.{cycle_whole}
use Rattle.reach.specs.Reached.{Occupied, Reached}
use Rattle.reach.specs.Cycle.{AllWhite, rooted, advances}
use Rattle.reach.proofs.Exact.{marked_exact}
use Rattle.atomic_laws.specs.Kept.{Kept, Spared}
use Rattle.atomic_laws.specs.Bodies.{bodies}
use Rattle.atomic_laws.proofs.Survives.{atomic_exact}

module _ (s : Sizes) (h : SizesOk s) (w b : List ℕ) (long : (lay_of s).words ≤ length w) where
  -- From any words: the roots marked, any steps, main thread's traversals, barriers and other work, then the atomic phase with an
  -- empty queue: the damage mark is as it was.
  pub planned_whole : {u : List ℕ} → Propagating (lay_of s) w 0 u → length_of (lay_of s).queue u ≡ 0 → at (atomic (lay_of s) b u) damage ≡ at w damage
  planned_whole p e = cycle_whole (lay_of s) (laid_of s h) (apart s) (ample s) b w long p e

  -- From words at Pause, every occupied slot in the current white: what is marked before separation is what the roots reach.
  pub planned_marked : AllWhite (lay_of s) w → (n : ℕ) (r : Ref)
      → (3 ≤ colour_w (lay_of s) r (marked (lay_of s) b (advances (lay_of s) b n (rooted (lay_of s) w)))) ↔ Reached (lay_of s) w b r
  planned_marked f n r = marked_exact (lay_of s) (laid_of s h) (apart s) (ample s) w b long f n r

  -- And if the queue is empty, an occupied slot is not in the old white after the atomic phase exactly if it is kept or spared.
  pub planned_exact : AllWhite (lay_of s) w → length_of (lay_of s).queue w ≡ 0 → (n : ℕ) (r : Ref) → Occupied (lay_of s) w r
      → (colour_w (lay_of s) r (atomic (lay_of s) b (advances (lay_of s) b n (rooted (lay_of s) w))) ≢ at w WHITE) ↔ (Kept (lay_of s) w b r ⊎ Spared (lay_of s) w b r)
  planned_exact f e n r i = atomic_exact (lay_of s) (laid_of s h) (apart s) (ample s) (bodies s) w b long f e n r i
