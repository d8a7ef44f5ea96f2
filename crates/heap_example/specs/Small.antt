-- A small heap: the new one, one more table and 81 open upvalues, none of which anything refers to. What its words hold is computed here.
-- Assumes nothing.
use Rattle.std.specs.Prelude.{◌≡◌, refl, Bool, true, false, cond, List, [], ◌∷◌, ℕ, zero, suc, ◌+◌, ◌*◌, eqb, length, replicate}
use Rattle.base.specs.Loop.{run, rounds}
use Rattle.base.specs.Ways.{if_lt, if_le, if_eq}
use Rattle.base.specs.Words.{at, put}
use Rattle.arena.specs.declared.Arena.{Arena}
use Rattle.arena.specs.Slots.{gen, head, fresh, count, tallied, occupied}
use Rattle.value.specs.Values.{value_of}
use Rattle.value.specs.Handles.{handle_of}
use Rattle.layout.specs.declared.Sizes.{Sizes}
use Rattle.layout.specs.Sizes.{sizes_fit}
use Rattle.layout.specs.Layout.{lay_of}
use Rattle.layout.specs.Places.{PHASE, WHITE, TOTAL, PEAK}
use Rattle.lists.specs.Lists.{length_of}
use Rattle.record.specs.Tables.{node_number}
use Rattle.newheap.specs.New.{puts, arena_sizes, main_sizes, settings, counters, roots, two_marks, two_extents, lengths, table_sizes, names, tables, fields, mode_text, gc_text}
use Rattle.mark.specs.Ops.{Ref, ref}
use Rattle.mark.specs.Words.{arena_of}
use Rattle.modes.specs.Modes.{weak_mode}
use Rattle.links.specs.Links.{each, node_links, entry_links, frame_links, main_links, root_links, table_links, links}
use Rattle.links.specs.Links as link

unfoldable pub sizes : Sizes
sizes = record { strings = 2; tables = 3; functions = 0; upvalues = 81; userdata = 0; threads = 0; protos = 0; stack = 0; opens = 0; frames = 1 }

-- x in the n words from p on
unfoldable pub fill : ℕ → ℕ → ℕ → List ℕ → List ℕ
fill p zero x w = w
fill p (suc n) x w = put (p + n) x (fill p n x w)

-- n slots of an arena are occupied, in white 1, each with a record of k words
unfoldable pub made : Arena → ℕ → ℕ → List ℕ → List ℕ
made a n k w = puts ((a.top + 1, n) ∷ (a.top + 2, n) ∷ []) (fill (a.base + 3 * a.slots) n k (fill a.base n 1 w))

unfoldable pub one_table : Arena → List ℕ → List ℕ
one_table a = puts ((a.top + 1, 3) ∷ (a.top + 2, 3) ∷ (a.base + 2, 1) ∷ (a.base + 3 * a.slots + 2, 4) ∷ [])

unfoldable pub words : List ℕ
words =
    let l = lay_of sizes in
    puts ((TOTAL, 2232) ∷ (PEAK, 2232) ∷ []) (made l.upvalues 81 4 (one_table l.tables (tables l (names l (fields l (replicate l.words 0))))))

unfoldable pub bytes : List ℕ
bytes = gc_text (mode_text (replicate (lay_of sizes).bytes 0))

-- whether a test holds of all below n
unfoldable pub all : (ℕ → Bool) → ℕ → Bool
all t zero = true
all t (suc n) = cond (t n) (all t n) false

-- the colour of the slot i of arena k is 1
abbrev pub is_one : ℕ → ℕ → Bool
is_one k i = eqb (at words ((arena_of (lay_of sizes) k).base + i)) 1

-- the three numbers of an arena, and how many slots are occupied
abbrev pub numbers : ℕ → List ℕ
numbers k = head (arena_of (lay_of sizes) k) words ∷ fresh (arena_of (lay_of sizes) k) words ∷ count (arena_of (lay_of sizes) k) words ∷ occupied (arena_of (lay_of sizes) k) words ∷ []

pub fits : sizes_fit sizes ≡ true
unfolding sizes_fit sizes
fits = refl

pub slots : (arena_of (lay_of sizes) 0).slots ∷ (arena_of (lay_of sizes) 1).slots ∷ (arena_of (lay_of sizes) 2).slots ∷ (arena_of (lay_of sizes) 3).slots ∷ (arena_of (lay_of sizes) 4).slots ∷ (arena_of (lay_of sizes) 5).slots ∷ []
    ≡ 2 ∷ 3 ∷ 0 ∷ 81 ∷ 0 ∷ 0 ∷ []
unfolding lay_of sizes
slots = refl

pub header : at words PHASE ∷ at words WHITE ∷ length_of (lay_of sizes).queue words ∷ [] ≡ 0 ∷ 1 ∷ 0 ∷ []
unfolding words bytes lay_of sizes fill made one_table arena_sizes main_sizes settings counters roots two_marks two_extents lengths table_sizes names tables fields
header = refl

pub colours : all (is_one 0) 2 ∷ all (is_one 1) 3 ∷ all (is_one 3) 81 ∷ [] ≡ true ∷ true ∷ true ∷ []
unfolding words all lay_of sizes fill made one_table arena_sizes main_sizes settings counters roots two_marks two_extents lengths table_sizes names tables fields
colours = refl

pub tops : numbers 0 ∷ numbers 1 ∷ numbers 2 ∷ numbers 3 ∷ numbers 4 ∷ numbers 5 ∷ []
    ≡ (0 ∷ 2 ∷ 2 ∷ 2 ∷ []) ∷ (0 ∷ 3 ∷ 3 ∷ 3 ∷ []) ∷ (0 ∷ 0 ∷ 0 ∷ 0 ∷ []) ∷ (0 ∷ 81 ∷ 81 ∷ 81 ∷ []) ∷ (0 ∷ 0 ∷ 0 ∷ 0 ∷ []) ∷ (0 ∷ 0 ∷ 0 ∷ 0 ∷ []) ∷ []
unfolding words lay_of sizes fill made one_table arena_sizes main_sizes settings counters roots two_marks two_extents lengths table_sizes names tables fields run rounds tallied occupied if_lt if_le if_eq
tops = refl

-- the roots: global, registry and both names
abbrev pub four : List Ref
four = ref 1 0 0 ∷ ref 1 1 0 ∷ ref 0 0 0 ∷ ref 0 1 0 ∷ []

pub roots_are : link.roots words (lay_of sizes) bytes ≡ four
unfolding words lay_of sizes fill made one_table arena_sizes main_sizes settings counters roots two_marks two_extents lengths table_sizes names tables fields root_links main_links frame_links each if_lt if_le if_eq value_of handle_of
roots_are = refl

-- and none of them refers to anything
pub links_are : links words (lay_of sizes) bytes (ref 1 0 0) ∷ links words (lay_of sizes) bytes (ref 1 1 0) ∷ links words (lay_of sizes) bytes (ref 0 0 0) ∷ links words (lay_of sizes) bytes (ref 0 1 0) ∷ [] ≡ [] ∷ [] ∷ [] ∷ [] ∷ []
unfolding words lay_of sizes fill made one_table arena_sizes main_sizes settings counters roots two_marks two_extents lengths table_sizes names tables fields links table_links entry_links node_links each weak_mode if_lt if_le if_eq value_of handle_of node_number
links_are = refl

-- the words and bytes are as many as the layout says
pub long : length words ≡ (lay_of sizes).words
unfolding words lay_of sizes fill made one_table arena_sizes main_sizes settings counters roots two_marks two_extents lengths table_sizes names tables fields
long = refl

pub wide : length bytes ≡ (lay_of sizes).bytes
unfolding bytes lay_of sizes mode_text gc_text
wide = refl

-- the generations of strings and tables are 0
pub gens : gen (arena_of (lay_of sizes) 0) 0 words ∷ gen (arena_of (lay_of sizes) 0) 1 words ∷ gen (arena_of (lay_of sizes) 1) 0 words ∷ gen (arena_of (lay_of sizes) 1) 1 words ∷ [] ≡ 0 ∷ 0 ∷ 0 ∷ 0 ∷ []
unfolding words lay_of sizes fill made one_table arena_sizes main_sizes settings counters roots two_marks two_extents lengths table_sizes names tables fields
gens = refl
