-- A heap is sound: the sizes in its header are within their ranges, and it has the state of their layout. That every heap that the calls
-- make is so is proved in proofs/Sounds.antt.
--     Sound             what holds of it
use Rattle.base.specs.Heap.{Heap}
use Rattle.layout.specs.Sizes.{SizesOk}
use Rattle.layout.specs.Layout.{lay_of}
use Rattle.test1.specs.Test1.{sizes_at}
use Rattle.state_laws.specs.State.{State}

-- What holds of a heap that the calls make.
pub record Sound (h : Heap) : Type 0 where
  pub fits : SizesOk (sizes_at h.words)
  pub state : State (lay_of (sizes_at h.words)) h
