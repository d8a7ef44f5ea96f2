-- Document 01, 'Sizes': the ten sizes that a heap is made with, and their ranges. Assumes nothing.
use Rattle.std.specs.Prelude.{◌≡◌, Bool, true, List, [], ◌∷◌, ◌≤◌}
use Rattle.std.proofs.Common.{arith}
use Rattle.layout.specs.Table.{Row, ◌⊑◌, all, Hold, all_hold}
use Rattle.layout.specs.declared.Sizes.{Sizes}

-- Strings and tables: 2 to 4,096 slots each; other arenas 0 to 4,096. Prototypes 0 to 256. Main stack 0 to 256, open list
-- 0 to 64, frames 1 to 32.
abbrev pub size_rows : Sizes → List Row
size_rows s =
    (2 ⊑ s.strings) ∷ (s.strings ⊑ 4096)
    ∷ (2 ⊑ s.tables) ∷ (s.tables ⊑ 4096)
    ∷ (s.functions ⊑ 4096)
    ∷ (s.upvalues ⊑ 4096)
    ∷ (s.userdata ⊑ 4096)
    ∷ (s.threads ⊑ 4096)
    ∷ (s.protos ⊑ 256)
    ∷ (s.stack ⊑ 256)
    ∷ (s.opens ⊑ 64)
    ∷ (1 ⊑ s.frames) ∷ (s.frames ⊑ 32)
    ∷ []

unfoldable pub sizes_fit : Sizes → Bool
sizes_fit s = all (size_rows s)

-- The same as facts, one for each row. (A nest of pairs would count a record for each row, this counts one.)
pub record SizesOk (s : Sizes) : Type 0 where
  pub strings2 : 2 ≤ s.strings
  pub strings : s.strings ≤ 4096
  pub tables2 : 2 ≤ s.tables
  pub tables : s.tables ≤ 4096
  pub functions : s.functions ≤ 4096
  pub upvalues : s.upvalues ≤ 4096
  pub userdata : s.userdata ≤ 4096
  pub threads : s.threads ≤ 4096
  pub protos : s.protos ≤ 256
  pub stack : s.stack ≤ 256
  pub opens : s.opens ≤ 64
  pub frames1 : 1 ≤ s.frames
  pub frames : s.frames ≤ 32

sizes_ok : (s : Sizes) → Hold (size_rows s) → SizesOk s
sizes_ok s h = search arith

pub sizes_fit_ok : (s : Sizes) → sizes_fit s ≡ true → SizesOk s
unfolding sizes_fit
sizes_fit_ok s p = sizes_ok s (all_hold (size_rows s) p)
