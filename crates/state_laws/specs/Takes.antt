-- A slot taken in the current white. Assumes nothing.
--     kind_size     what it is worth in the total
--     Begun         what all calls that make an object begin with: a refusal, or a new record past the prototypes
use Rattle.std.specs.Prelude.{Ok, Err, Result}
use mathlib.Core.List.{List}
use Prim.Native.Nat.{ℕ, zero, suc, ◌≤◌}
use Rattle.base.specs.Heap.{heap}
use Rattle.base.specs.declared.Refusal.{Refusal}
use Rattle.layout.specs.declared.Lay.{Lay}
use Rattle.laid.specs.Laid.{Laid}
use Rattle.mark_laws.specs.Apart.{Apart}
use Rattle.sweep_laws.specs.Places.{Rows}
use Rattle.state_laws.specs.State.{State}

-- Sizes in the total, by the kinds: string 48, table 64, closure 48, upvalue 24, userdata 48, thread 256.
abbrev pub kind_size : ℕ → ℕ
kind_size zero = 48
kind_size (suc zero) = 64
kind_size (suc (suc zero)) = 48
kind_size (suc (suc (suc zero))) = 24
kind_size (suc (suc (suc (suc zero)))) = 48
kind_size (suc (suc (suc (suc (suc k))))) = 256

module _ (l : Lay) (ok : Laid l) (a : Apart l) (r : Rows l) where
  -- A new object: its record lies past the prototypes.
  abbrev pub Begun : List ℕ → Result (ℕ × ℕ × ℕ) Refusal × List ℕ → Type 0
  Begun b (Ok (i, g, p), u) = State l (heap u b) × (l.stack.base ≤ p)
  Begun b (Err k, u) = State l (heap u b)
