-- The parts of a heap fill its words, and the fields of the header fill the header, with no gap and no overlap, for all
-- ten sizes. Both lists are read off the layout that the code uses. Assumes nothing.
use Rattle.std.specs.Prelude.{◌≡◌, refl, List, [], ◌∷◌, ◌++◌, ℕ, ◌+◌, ◌*◌, ◌<◌}
use Rattle.std.proofs.Common.{subst, zero-le, arith}
use Rattle.arena.specs.declared.Arena.{Arena}
use Rattle.layout.specs.Places.{SIZES, PROTOTYPES, TOP, OPENS, CI, ERROR, HOOK, GLOBAL, REGISTRY, NAME_MODE, NAME_GC, METATABLES, LIMIT, PAUSE, STEPMUL, CREATION, DAMAGE, PHASE, WHITE, CURSOR_ARENA, CURSOR_SLOT, TOTAL, PEAK, ESTIMATE, THRESHOLD, DEBT, INTERRUPTED, OUT, REMAINING, HEADER, PROTO_WORDS, ITEM_WORDS, VALUE_WORDS, HANDLE_WORDS}
use Rattle.layout.specs.Layout.{lay_of}
use Rattle.layout.specs.declared.Sizes.{Sizes}
use Rattle.layout.specs.declared.Lay.{Lay}
use Rattle.layout_laws.specs.Tiles.{Span, span, In, Tiles, ◌▸◌, over, nth, Found, tiles_one, tiles_some, tiles_below}

-- colours, generations, links and extents of an arena, as its functions read them
abbrev pub ranges : Arena → List Span
ranges a =
    span a.base a.slots
    ∷ span (a.base + a.slots) a.slots
    ∷ span (a.base + 2 * a.slots) a.slots
    ∷ span (a.base + 3 * a.slots) a.slots
    ∷ []

-- the bodies of an arena
abbrev pub bodies : Arena → Span
bodies a = span a.bodies (a.slots * a.stride)

-- The parts of a heap's words, in the order of docs/LAYOUT.md.
unfoldable pub parts : Lay → List Span
parts l =
    (span 0 HEADER ∷ [])
    ++ ranges l.strings ++ ranges l.tables ++ ranges l.functions
    ++ ranges l.upvalues ++ ranges l.userdata ++ ranges l.threads
    ++ (span l.gray.base (ITEM_WORDS * l.gray.room)
    ∷ span l.grayagain.base (ITEM_WORDS * l.grayagain.room)
    ∷ span l.weak.base (ITEM_WORDS * l.weak.room)
    ∷ span l.queue.base (ITEM_WORDS * l.queue.room)
    ∷ span l.protos.base (PROTO_WORDS * l.protos.room)
    ∷ span l.stack.base (VALUE_WORDS * l.stack.room)
    ∷ span l.opens.base (HANDLE_WORDS * l.opens.room)
    ∷ span l.frames.base l.frames.room
    ∷ bodies l.strings ∷ bodies l.tables ∷ bodies l.functions
    ∷ bodies l.upvalues ∷ bodies l.userdata ∷ bodies l.threads
    ∷ [])

-- The fields of the header, each with its words: the ten sizes and nine type metatables are one field each, the counts of
-- the lists and the three words of each arena stand where the layout says.
unfoldable pub fields : Lay → List Span
fields l =
    span SIZES 10
    ∷ span PROTOTYPES 1 ∷ span TOP 1 ∷ span OPENS 1 ∷ span CI 1
    ∷ span ERROR VALUE_WORDS ∷ span HOOK VALUE_WORDS
    ∷ span GLOBAL 2 ∷ span REGISTRY 2 ∷ span NAME_MODE 2 ∷ span NAME_GC 2 ∷ span METATABLES (9 * 2)
    ∷ span LIMIT 2 ∷ span PAUSE 1 ∷ span STEPMUL 1 ∷ span CREATION 2
    ∷ span DAMAGE 1 ∷ span PHASE 1 ∷ span WHITE 1 ∷ span CURSOR_ARENA 1 ∷ span CURSOR_SLOT 1
    ∷ span TOTAL 1 ∷ span PEAK 1 ∷ span ESTIMATE 1 ∷ span THRESHOLD 2 ∷ span DEBT 2
    ∷ span INTERRUPTED 1 ∷ span OUT 2 ∷ span REMAINING 2
    ∷ span l.gray.count 1 ∷ span l.grayagain.count 1 ∷ span l.weak.count 1 ∷ span l.queue.count 1
    ∷ span l.strings.top 3 ∷ span l.tables.top 3 ∷ span l.functions.top 3
    ∷ span l.upvalues.top 3 ∷ span l.userdata.top 3 ∷ span l.threads.top 3
    ∷ []

-- The parts fill the words, from 0 to their end, each where the one before it ends.
pub parts_tile : (s : Sizes) → Tiles 0 (parts (lay_of s)) (lay_of s).words
unfolding lay_of parts
parts_tile s =
    refl
    ▸ four (lay_of s).strings
    (four (lay_of s).tables
    (four (lay_of s).functions
    (four (lay_of s).upvalues
    (four (lay_of s).userdata
    (four (lay_of s).threads
    (refl ▸ refl ▸ refl ▸ refl
    ▸ refl ▸ refl ▸ refl ▸ refl
    ▸ refl ▸ (omega arith) ▸ (omega arith) ▸ (omega arith) ▸ (omega arith) ▸ (omega arith)
    ▸ over (omega arith)))))))
  where
    four : {e : ℕ} {ss : List Span} (a : Arena) → Tiles (a.base + 4 * a.slots) ss e → Tiles a.base (ranges a ++ ss) e
    four {e} {ss} a t = refl ▸ refl ▸ (omega arith) ▸ (omega arith) ▸ subst (λ i. Tiles i ss e) (omega arith) t

-- no word lies in two parts, whichever two
pub parts_apart : (s : Sizes) (j k p : ℕ) → In p (nth (parts (lay_of s)) j) → In p (nth (parts (lay_of s)) k) → j ≡ k
parts_apart s j k p g h = tiles_one j k p (parts_tile s) g h

-- every word lies in one, and no part has a word past the end
pub parts_cover : (s : Sizes) (p : ℕ) → p < (lay_of s).words → Found p (parts (lay_of s))
parts_cover s p h = tiles_some p (parts_tile s) zero-le h

pub parts_within : (s : Sizes) (k p : ℕ) → In p (nth (parts (lay_of s)) k) → p < (lay_of s).words
parts_within s k p h = tiles_below k p (parts_tile s) h

-- The same of the header's fields.
pub fields_tile : (s : Sizes) → Tiles 0 (fields (lay_of s)) HEADER
unfolding lay_of fields
fields_tile s =
    refl
    ▸ refl ▸ refl ▸ refl ▸ refl
    ▸ refl ▸ refl
    ▸ refl ▸ refl ▸ refl ▸ refl ▸ refl
    ▸ refl ▸ refl ▸ refl ▸ refl
    ▸ refl ▸ refl ▸ refl ▸ refl ▸ refl
    ▸ refl ▸ refl ▸ refl ▸ refl ▸ refl
    ▸ refl ▸ refl ▸ refl
    ▸ refl ▸ refl ▸ refl ▸ refl
    ▸ refl ▸ refl ▸ refl ▸ refl ▸ refl ▸ refl
    ▸ over refl

pub fields_apart : (s : Sizes) (j k p : ℕ) → In p (nth (fields (lay_of s)) j) → In p (nth (fields (lay_of s)) k) → j ≡ k
fields_apart s j k p g h = tiles_one j k p (fields_tile s) g h

pub fields_cover : (s : Sizes) (p : ℕ) → p < HEADER → Found p (fields (lay_of s))
fields_cover s p h = tiles_some p (fields_tile s) zero-le h
