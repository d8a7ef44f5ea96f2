-- Document 01, 'Refusal numbers', rows 1 and 8: what every call asks first, of the header and the two lengths alone.
-- Assumes nothing.
use Rattle.std.specs.Prelude.{Bool, cond, ◌&&◌, List, [], ◌∷◌, ℕ, suc, ◌+◌, leb, eqb, length, Ok, Err, Result}
use Rattle.base.specs.Words.{at}
use Rattle.base.specs.declared.Refusal.TheVariants.{Unfit, Damaged}
use Rattle.base.specs.declared.Refusal.{Refusal}
use Rattle.layout.specs.Table.{Row, ◌⊑◌, all}
use Rattle.layout.specs.Places.{SIZES, PROTOTYPES, TOP, OPENS, CI, DAMAGE, PHASE, WHITE, TOTAL, GRAY, GRAYAGAIN, WEAK, QUEUE, STRINGS, TABLES, FUNCTIONS, UPVALUES, USERDATA, THREADS, HEADER}
use Rattle.layout.specs.Sizes.{sizes_fit}
use Rattle.layout.specs.Layout.{lay_of, gray_room, grayagain_room, weak_room, queue_room}
use Rattle.layout.specs.declared.Sizes.{Sizes}

-- the sizes as the header has them
unfoldable pub sizes_at : List ℕ → Sizes
sizes_at w = record {
  strings = at w SIZES;
  tables = at w (SIZES + 1);
  functions = at w (SIZES + 2);
  upvalues = at w (SIZES + 3);
  userdata = at w (SIZES + 4);
  threads = at w (SIZES + 5);
  protos = at w (SIZES + 6);
  stack = at w (SIZES + 7);
  opens = at w (SIZES + 8);
  frames = at w (SIZES + 9);
}

-- An arena: the fresh index is at most the slots, the count of occupied slots at most the fresh index.
abbrev pub arena_rows : List ℕ → ℕ → ℕ → List Row
arena_rows w top slots =
    (at w (top + 1) ⊑ slots)
    ∷ (at w (top + 2) ⊑ at w (top + 1))
    ∷ []

unfoldable pub arenas_fit : List ℕ → Sizes → Bool
arenas_fit w s =
    all (arena_rows w STRINGS s.strings)
    && all (arena_rows w TABLES s.tables)
    && all (arena_rows w FUNCTIONS s.functions)
    && all (arena_rows w UPVALUES s.upvalues)
    && all (arena_rows w USERDATA s.userdata)
    && all (arena_rows w THREADS s.threads)

-- The four lists: each count is at most the room.
abbrev pub list_rows : List ℕ → Sizes → List Row
list_rows w s =
    (at w GRAY ⊑ gray_room s)
    ∷ (at w GRAYAGAIN ⊑ grayagain_room s)
    ∷ (at w WEAK ⊑ weak_room s)
    ∷ (at w QUEUE ⊑ queue_room s)
    ∷ []

-- Prototypes used; the main thread's top, open count, and ci, which is below the frames.
abbrev pub main_rows : List ℕ → Sizes → List Row
main_rows w s =
    (at w PROTOTYPES ⊑ s.protos)
    ∷ (at w TOP ⊑ s.stack)
    ∷ (at w OPENS ⊑ s.opens)
    ∷ (suc (at w CI) ⊑ s.frames)
    ∷ []

-- Five phases, two whites; tracked total at most 2^31 - 1.
abbrev pub state_rows : List ℕ → List Row
state_rows w =
    (at w PHASE ⊑ 4)
    ∷ (1 ⊑ at w WHITE)
    ∷ (at w WHITE ⊑ 2)
    ∷ (at w TOTAL ⊑ 2147483647)
    ∷ []

unfoldable pub counts_fit : List ℕ → Sizes → Bool
counts_fit w s = arenas_fit w s && all (list_rows w s) && all (main_rows w s) && all (state_rows w)

-- Row 1, turned round: no buffer is too short, and each stored size, count, phase and current white lies within its range.
unfoldable pub accepted : List ℕ → ℕ → Bool
accepted w m =
    leb HEADER (length w)
    && sizes_fit (sizes_at w)
    && counts_fit w (sizes_at w)
    && leb (lay_of (sizes_at w)).words (length w)
    && leb (lay_of (sizes_at w)).bytes m

-- Every call begins so: 1; then 8, if the damage mark was set before the call; else it has the sizes of the layout.
unfoldable pub opened : List ℕ → ℕ → Result Sizes Refusal
opened w m = cond (accepted w m) (cond (eqb (at w DAMAGE) 0) (Ok (sizes_at w)) (Err Damaged)) (Err Unfit)
