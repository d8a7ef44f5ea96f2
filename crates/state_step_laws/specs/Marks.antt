-- The state, with no finalizer out: what the laws of the single steps speak of. The laws of marking stand in proofs/Marks.antt.
--     Free              the state, with no finalizer out
use Rattle.std.specs.Prelude.{◌≡◌}
use Rattle.base.specs.Words.{at}
use Rattle.base.specs.Heap.{Heap}
use Rattle.layout.specs.declared.Lay.{Lay}
use Rattle.layout.specs.Places.{INTERRUPTED}
use Rattle.state_laws.specs.State.{State}

-- No finalizer is out.
pub record Free (l : Lay) (h : Heap) : Type 0 where
  pub state : State l h
  pub none : at h.words INTERRUPTED ≡ 0
