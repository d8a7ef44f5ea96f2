-- The words of a new heap that are not 0, as rows: a place and what stands there, the last that is written first. That a new heap has
-- them, and the state, is proved in proofs/News.antt.
--     field_rows, slot_rows, name_rows, table_rows     the header; two slots of an arena; two strings; two tables
use Rattle.std.specs.Prelude.{List, [], ◌∷◌, ℕ, ◌+◌, ◌*◌}
use Rattle.arena.specs.declared.Arena.{Arena}
use Rattle.layout.specs.declared.Lay.{Lay}

module _ (l : Lay) where
  -- The rows of the header, the last that is written first.
  abbrev pub field_rows : List (ℕ × ℕ)
  field_rows =
      (26, 2) ∷ (24, 1) ∷ (22, 2) ∷ (20, 1)
      ∷ (63, 2147483648) ∷ (60, 65536) ∷ (58, 224) ∷ (57, 224) ∷ (54, 1)
      ∷ (49, 200) ∷ (48, 200) ∷ (47, 4294967295) ∷ (46, 4294967295)
      ∷ (9, l.frames.room) ∷ (8, l.opens.room) ∷ (7, l.stack.room) ∷ (6, l.protos.room)
      ∷ (5, l.threads.slots) ∷ (4, l.userdata.slots) ∷ (3, l.upvalues.slots) ∷ (2, l.functions.slots) ∷ (1, l.tables.slots) ∷ (0, l.strings.slots)
      ∷ []

  -- Two slots of an arena, with n words each: colours, the fresh index and the count.
  abbrev pub slot_rows : Arena → ℕ → List (ℕ × ℕ)
  slot_rows a n = (a.base + 3 * a.slots + 1, n) ∷ (a.base + 3 * a.slots, n) ∷ (a.base + 1, 1) ∷ (a.base, 1) ∷ (a.top + 2, 2) ∷ (a.top + 1, 2) ∷ []

  abbrev pub name_rows : List (ℕ × ℕ)
  name_rows = (l.strings.bodies + 1, 4) ∷ (l.strings.bodies, 6) ∷ slot_rows l.strings 1

  abbrev pub table_rows : List (ℕ × ℕ)
  table_rows =
      (l.tables.bodies + 580 + 3, 8) ∷ (l.tables.bodies + 580 + 2, 8) ∷ (l.tables.bodies + 3, 8) ∷ (l.tables.bodies + 2, 8) ∷ slot_rows l.tables 76
