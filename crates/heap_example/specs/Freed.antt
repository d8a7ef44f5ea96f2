-- The numbers of slots that are freed one after another, as a chain then leads through them. Assumes nothing.
use Rattle.std.specs.Prelude.{ℕ, zero, suc, ◌+◌}
use mathlib.Core.List.{List, [], ◌∷◌}

-- The numbers a + n - 1 down to a.
unfoldable pub down : ℕ → ℕ → List ℕ
down zero a = []
down (suc n) a = (a + n) ∷ down n a
