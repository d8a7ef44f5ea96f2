-- The loop that nests prototypes. That making a prototype keeps the state is proved in proofs/Protos.antt.
--     Nesting               the loop, after some turns
use Rattle.std.specs.Prelude.{◌≡◌, ◌≢◌}
use mathlib.Core.List.{List}
use Prim.Native.Nat.{ℕ, ◌+◌, ◌<◌}
use Rattle.std.proofs.Math.ListN.{length}
use Rattle.base.specs.Words.{at}
use Rattle.layout.specs.declared.Lay.{Lay}
use Rattle.main_record.specs.Prototypes.{proto_at}

-- The loop that nests: after k turns.
pub record Nesting (l : Lay) (n : ℕ) (s w : List ℕ) (k : ℕ) (u : List ℕ) : Type 0 where
  pub long : length u ≡ length w
  pub other : (x : ℕ) → ((j : ℕ) → j < length s → (x ≢ proto_at l n + 51 + j) × (x ≢ proto_at l (at s j) + 2)) → at u x ≡ at w x
  pub child : (j : ℕ) → j < k → at u (proto_at l n + 51 + j) ≡ at s j
  pub parent : (j : ℕ) → j < k → at u (proto_at l (at s j) + 2) ≡ n + 1
