-- The invariant of the loop that fills with nil: what is left of it gives the whole, and the words stay as long. Assumes nothing.
use Prim.Native.Nat.{ℕ}
use mathlib.Core.Path.{◌≡◌}
use mathlib.Core.List.{List}
use lib.ListN.{length}
use Rattle.base.specs.Loop.{run}
use Rattle.stacks.specs.declared.Counted.{Counted}
use Rattle.stacks.specs.Values.{nil_at}

pub record Filling (w₀ : List ℕ) (s : Counted) (n : ℕ) (w : List ℕ) (i : ℕ) : Type 0 where
  pub rest : run (nil_at s) i n w ≡ run (nil_at s) s.count n w₀
  pub long : length w ≡ length w₀
