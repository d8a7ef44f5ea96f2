-- Public reads of the header: an answer for each counter, size and root, and for the finalizer that is out. They give 1, 8, then
-- 4 for an index outside its range, and change nothing. Assumes nothing.
use Rattle.std.specs.Prelude.{Bool, List as Words, ℕ, ◌+◌, ◌*◌, ◌<◌, Ok, Err, Result}
use Rattle.base.specs.Ways.{if_lt}
use Rattle.base.specs.Words.{at, get64}
use Rattle.base.specs.Heap.{Heap}
use Rattle.base.specs.declared.Refusal.TheVariants.{OutOfRange}
use Rattle.base.specs.declared.Refusal.{Refusal}
use Rattle.value.specs.Values.{word_of}
use Rattle.value.specs.Handles.{table_or_at, str_or_at, ud_or_at}
use Rattle.layout.specs.Places.{SIZES, PROTOTYPES, GLOBAL, REGISTRY, NAME_MODE, NAME_GC, METATABLES, LIMIT, PAUSE, STEPMUL, CREATION, PHASE, WHITE, CURSOR_ARENA, CURSOR_SLOT, TOTAL, PEAK, ESTIMATE, THRESHOLD, DEBT, INTERRUPTED, OUT, REMAINING}
use Rattle.test1.specs.Calls.{ask}
use Rattle.reads.specs.declared.Read.{Read}
use Rattle.reads.specs.declared.Read.TheVariants.{Number, Table, Str, Userdata}
use Rattle.reads.specs.declared.Counter.{Counter}
use Rattle.reads.specs.declared.Counter.TheVariants as counter
use Rattle.reads.specs.declared.Field.{Field}
use Rattle.reads.specs.declared.Field.TheVariants.{Short, Long}
use Rattle.reads.specs.declared.Size.{Size}
use Rattle.reads.specs.declared.Size.TheVariants as size
use Rattle.reads.specs.declared.Root.{Root}
use Rattle.reads.specs.declared.Root.TheVariants as root

-- A number that stands at a place.
abbrev pub number_read : ℕ → Words ℕ → Result Read Refusal
number_read p w = Ok (Number (at w p))

-- 1 for yes, 0 for no.
abbrev pub flag_read : Bool → Result Read Refusal
flag_read b = Ok (Number (word_of b))

-- Where each counter stands: one word, or two, the low one first.
abbrev pub field_of : Counter → Field
field_of counter.Prototypes = Short PROTOTYPES
field_of counter.Limit = Long LIMIT
field_of counter.Pause = Short PAUSE
field_of counter.Stepmul = Short STEPMUL
field_of counter.Creation = Long CREATION
field_of counter.Phase = Short PHASE
field_of counter.White = Short WHITE
field_of counter.CursorArena = Short CURSOR_ARENA
field_of counter.CursorSlot = Short CURSOR_SLOT
field_of counter.Total = Short TOTAL
field_of counter.Peak = Short PEAK
field_of counter.Estimate = Short ESTIMATE
field_of counter.Threshold = Long THRESHOLD
field_of counter.Debt = Long DEBT
field_of counter.Interrupted = Short INTERRUPTED
field_of counter.Remaining = Long REMAINING

abbrev pub InHeader : Field → Type 0
InHeader (Short p) = p < 90
InHeader (Long p) = p < 90

abbrev pub field_in : Field → Words ℕ → Result Read Refusal
field_in (Short p) w = number_read p w
field_in (Long p) w = Ok (Number (get64 w p))

unfoldable pub counter_in : Counter → Words ℕ → Result Read Refusal
counter_in c w = field_in (field_of c) w

abbrev pub read_counter : Counter → Heap → Result Read Refusal
read_counter c = ask Err (λ l h. counter_in c h.words)

-- The ten chosen sizes stand first in the header, in the order of `Sizes`.
abbrev pub size_place : Size → ℕ
size_place size.Strings = SIZES
size_place size.Tables = SIZES + 1
size_place size.Functions = SIZES + 2
size_place size.Upvalues = SIZES + 3
size_place size.Userdata = SIZES + 4
size_place size.Threads = SIZES + 5
size_place size.Prototypes = SIZES + 6
size_place size.Stack = SIZES + 7
size_place size.Opens = SIZES + 8
size_place size.Frames = SIZES + 9

abbrev pub read_size : Size → Heap → Result Read Refusal
read_size q = ask Err (λ l h. number_read (size_place q) h.words)

-- While a finalizer is out the header keeps its userdata.
abbrev pub read_out : Heap → Result Read Refusal
read_out = ask Err (λ l h. Ok (Userdata (ud_or_at h.words OUT)))

-- Roots: global, registry, both names, nine type metatables.
abbrev pub root_in : Root → Words ℕ → Result Read Refusal
root_in root.Global w = Ok (Table (table_or_at w GLOBAL))
root_in root.Registry w = Ok (Table (table_or_at w REGISTRY))
root_in root.Mode w = Ok (Str (str_or_at w NAME_MODE))
root_in root.Gc w = Ok (Str (str_or_at w NAME_GC))
root_in (root.Type k) w = if_lt k 9 (Ok (Table (table_or_at w (METATABLES + 2 * k)))) (Err OutOfRange)

abbrev pub read_root : Root → Heap → Result Read Refusal
read_root q = ask Err (λ l h. root_in q h.words)
