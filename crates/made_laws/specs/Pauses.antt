-- What demand 3 asks for at Pause. That every heap that the calls make has it is proved in proofs/Pauses.antt.
--     lay_at            the layout of the sizes in the header
--     Pausing           what demand 3 asks for
use Rattle.std.specs.Prelude.{◌≡◌, ◌≤◌, length}
use Rattle.base.specs.Words.{at}
use Rattle.base.specs.Heap.{Heap}
use Rattle.layout.specs.declared.Lay.{Lay}
use Rattle.layout.specs.Sizes.{SizesOk}
use Rattle.layout.specs.Layout.{lay_of}
use Rattle.layout.specs.Places.{DAMAGE, PHASE, INTERRUPTED}
use Rattle.lists.specs.Lists.{length_of}
use Rattle.test1.specs.Test1.{sizes_at}
use Rattle.reach.specs.Cycle.{AllWhite}
use Rattle.sweep_laws.specs.Turns.{Arenas}

-- the layout of the sizes in the header
abbrev pub lay_at : Heap → Lay
lay_at h = lay_of (sizes_at h.words)

-- What demand 3 asks of a heap, for the layout of its sizes: they are within their ranges, both buffers are long enough; the phase is
-- Pause, every occupied slot has the current white, the queue is empty, the six arenas are well-formed. And beside: no finalizer is
-- out, no damage is marked.
pub record Pausing (h : Heap) : Type 0 where
  pub fits : SizesOk (sizes_at h.words)
  pub long : (lay_at h).words ≤ length h.words
  pub wide : (lay_at h).bytes ≤ length h.bytes
  pub pause : at h.words PHASE ≡ 0
  pub white : AllWhite (lay_at h) h.words
  pub none : length_of (lay_at h).queue h.words ≡ 0
  pub arenas : Arenas (lay_at h) h.words
  pub out : at h.words INTERRUPTED ≡ 0
  pub whole : at h.words DAMAGE ≡ 0
