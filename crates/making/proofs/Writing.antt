-- The invariant of a loop that writes n items, one each turn: what is left gives the whole, and the words stay as many.
-- Assumes nothing.
use Prim.Native.Nat.{ℕ}
use mathlib.Core.Path.{◌≡◌}
use mathlib.Core.List.{List}
use lib.ListN.{length}
use Rattle.base.specs.Loop.{run}

pub record Writing (step : ℕ → List ℕ → List ℕ) (n : ℕ) (w₀ w : List ℕ) (k : ℕ) : Type 0 where
  pub rest : run step k n w ≡ run step 0 n w₀
  pub long : length w ≡ length w₀
