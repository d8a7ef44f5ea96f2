-- A single step in Finalize takes an item out of the queue, and may write words of pacing or end the cycle. What is proved of it stands
-- in proofs/Finalizes.antt.
--     Wrote             what it writes
use Rattle.std.specs.Prelude.{◌≡◌, ◌⊎◌, List}
use Prim.Native.Nat.{ℕ, ◌≤◌, ◌<◌}
use Rattle.std.proofs.Math.ListN.{length}
use Rattle.base.specs.Words.{at}
use Rattle.layout.specs.Places.{PHASE, WHITE}

-- no word that such a step writes beside the queue: the phase, estimate, threshold and debt
abbrev pub Far : ℕ → Type 0
Far x = (x < 53) ⊎ ((x ≡ WHITE) ⊎ (64 ≤ x))

-- What an item's turn, or the end, leaves. The cycle ends only where E holds.
pub record Wrote (E : Type 0) (w u : List ℕ) : Type 0 where
  pub long : length u ≡ length w
  pub word : (x : ℕ) → Far x → at u x ≡ at w x
  pub phase : (at u PHASE ≡ at w PHASE) ⊎ ((at u PHASE ≡ 0) × E)
