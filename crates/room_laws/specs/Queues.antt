-- What the second part of the atomic phase leaves as it was: separation, and the marking of what the due reach.
-- Assumes nothing.
use Rattle.std.specs.Prelude.{◌≡◌, ◌≢◌}
use mathlib.Core.List.{List}
use Prim.Native.Nat.{ℕ, ◌<◌}
use Rattle.std.proofs.Math.ListN.{length}
use Rattle.base.specs.Words.{at}
use Rattle.value.specs.Laws.{Outside}
use Rattle.layout.specs.declared.Lay.{Lay}

-- The words below the queue are as they were, but for its count and the colours of userdata.
pub record Held (l : Lay) (w u : List ℕ) : Type 0 where
  pub long : length u ≡ length w
  pub kept : (q : ℕ) → q ≢ l.queue.count → Outside l.userdata.base l.userdata.slots q → q < l.queue.base → at u q ≡ at w q
