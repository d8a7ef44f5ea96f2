-- What a single step comes to. That every one keeps the state is proved in proofs/Singles.antt.
--     Final             a step in Finalize: an item is taken out of the queue, or the cycle ends
--     After             a single step; one that hands a finalizer out leaves the phase Finalize
use Rattle.std.specs.Prelude.{◌≡◌, ◌⊎◌}
use mathlib.Core.List.{List}
use Prim.Native.Nat.{ℕ, ◌+◌}
use Rattle.base.specs.Words.{at}
use Rattle.base.specs.Heap.{Heap}
use Rattle.layout.specs.declared.Lay.{Lay}
use Rattle.layout.specs.Places.{PHASE}
use Rattle.lists.specs.Lists.{length_of}
use Rattle.laid.specs.Laid.{Laid}
use Rattle.step.specs.declared.Single.{Single}
use Rattle.step.specs.declared.Single.TheVariants.{Cost, Out}
use Rattle.mark_laws.specs.Apart.{Apart}
use Rattle.room_laws.specs.Tallies.{Ample}
use Rattle.atomic_laws.specs.Bodies.{Bodies}
use Rattle.sweep_laws.specs.Places.{Rows}
use Rattle.state_step_laws.specs.Marks.{Free}

-- What a step hands out, it hands out in Finalize.
abbrev pub Late : Single × List ℕ → Type 0
Late (Cost c, u) = Unit {0}
Late (Out x v, u) = at u PHASE ≡ 4

module _ (l : Lay) (ok : Laid l) (a : Apart l) (r : Rows l) where
  -- What a step in Finalize comes to: the end, or one item less in the queue.
  pub record Final (h g : Heap) : Type 0 where
    pub free : Free l g
    pub phase : (at g.words PHASE ≡ 0) ⊎ ((at g.words PHASE ≡ 4) × (length_of l.queue g.words + 1 ≡ length_of l.queue h.words))

  module _ (am : Ample l) (y : Bodies l) where
    -- What a single step leaves.
    abbrev pub After : Single × Heap → Type 0
    After (Cost c, g) = Free l g
    After (Out x v, g) = Free l g × (at g.words PHASE ≡ 4)
