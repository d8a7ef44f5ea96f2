-- Where the parts of a heap lie, from its sizes. Each part begins where the one before it ends, so the page is read from
-- the top down. Low to high: the header; for each arena colours, generations, links and extents, a word for each slot in
-- each; the four lists; then, past the one boundary, all that traversal reads: prototypes, main stack, main open list,
-- frames, the bodies of the six arenas. Assumes nothing.
use Rattle.std.specs.Prelude.{cond, ℕ, ◌+◌, ◌*◌, Ok, Err, Result}
use Rattle.base.specs.declared.Refusal.TheVariants.{OutOfRange}
use Rattle.base.specs.declared.Refusal.{Refusal}
use Rattle.arena.specs.declared.Arena.{Arena}
use Rattle.layout.specs.Places.{GRAY, GRAYAGAIN, WEAK, QUEUE, STRINGS, TABLES, FUNCTIONS, UPVALUES, USERDATA, THREADS, HEADER, STRING_WORDS, TABLE_WORDS, FUNCTION_WORDS, UPVALUE_WORDS, USERDATA_WORDS, THREAD_WORDS, PROTO_WORDS, ITEM_WORDS, VALUE_WORDS, HANDLE_WORDS, STRING_BYTES}
use Rattle.layout.specs.Sizes.{sizes_fit}
use Rattle.layout.specs.declared.Sizes.{Sizes}
use Rattle.layout.specs.declared.List.{List}
use Rattle.layout.specs.declared.Part.{Part}
use Rattle.layout.specs.declared.Lay.{Lay}

-- Room of the working lists: gray, every table, closure and thread plus one; grayagain, every table and twice the threads
-- plus one; weak, twice the tables; queue, every userdata.
abbrev pub gray_room : Sizes → ℕ
gray_room s = s.tables + s.functions + s.threads + 1

abbrev pub grayagain_room : Sizes → ℕ
grayagain_room s = s.tables + 2 * s.threads + 1

abbrev pub weak_room : Sizes → ℕ
weak_room s = 2 * s.tables

abbrev pub queue_room : Sizes → ℕ
queue_room s = s.userdata

-- colours, generations, links and extents of each arena
abbrev pub strings_at : Sizes → ℕ
strings_at s = HEADER

abbrev pub tables_at : Sizes → ℕ
tables_at s = strings_at s + 4 * s.strings

abbrev pub functions_at : Sizes → ℕ
functions_at s = tables_at s + 4 * s.tables

abbrev pub upvalues_at : Sizes → ℕ
upvalues_at s = functions_at s + 4 * s.functions

abbrev pub userdata_at : Sizes → ℕ
userdata_at s = upvalues_at s + 4 * s.upvalues

abbrev pub threads_at : Sizes → ℕ
threads_at s = userdata_at s + 4 * s.userdata

-- the four lists
abbrev pub gray_at : Sizes → ℕ
gray_at s = threads_at s + 4 * s.threads

abbrev pub grayagain_at : Sizes → ℕ
grayagain_at s = gray_at s + ITEM_WORDS * gray_room s

abbrev pub weak_at : Sizes → ℕ
weak_at s = grayagain_at s + ITEM_WORDS * grayagain_room s

abbrev pub queue_at : Sizes → ℕ
queue_at s = weak_at s + ITEM_WORDS * weak_room s

-- the boundary; prototypes, main stack, main open list, frames
abbrev pub boundary_of : Sizes → ℕ
boundary_of s = queue_at s + ITEM_WORDS * queue_room s

abbrev pub stack_at : Sizes → ℕ
stack_at s = boundary_of s + PROTO_WORDS * s.protos

abbrev pub opens_at : Sizes → ℕ
opens_at s = stack_at s + VALUE_WORDS * s.stack

abbrev pub frames_at : Sizes → ℕ
frames_at s = opens_at s + HANDLE_WORDS * s.opens

-- the bodies of each arena, and the end of the words
abbrev pub string_bodies_at : Sizes → ℕ
string_bodies_at s = frames_at s + s.frames

abbrev pub table_bodies_at : Sizes → ℕ
table_bodies_at s = string_bodies_at s + STRING_WORDS * s.strings

abbrev pub function_bodies_at : Sizes → ℕ
function_bodies_at s = table_bodies_at s + TABLE_WORDS * s.tables

abbrev pub upvalue_bodies_at : Sizes → ℕ
upvalue_bodies_at s = function_bodies_at s + FUNCTION_WORDS * s.functions

abbrev pub userdata_bodies_at : Sizes → ℕ
userdata_bodies_at s = upvalue_bodies_at s + UPVALUE_WORDS * s.upvalues

abbrev pub thread_bodies_at : Sizes → ℕ
thread_bodies_at s = userdata_bodies_at s + USERDATA_WORDS * s.userdata

abbrev pub words_of : Sizes → ℕ
words_of s = thread_bodies_at s + THREAD_WORDS * s.threads

-- A string's bytes are a part of the byte buffer, starting at slot times width.
abbrev pub bytes_of : Sizes → ℕ
bytes_of s = STRING_BYTES * s.strings

abbrev pub arena : ℕ → ℕ → ℕ → ℕ → ℕ → ℕ → Arena
arena top base slots bodies stride width = record { top = top; base = base; slots = slots; bodies = bodies; stride = stride; width = width }

abbrev pub items : ℕ → ℕ → ℕ → List
items count base room = record { count = count; base = base; room = room }

abbrev pub part : ℕ → ℕ → Part
part base room = record { base = base; room = room }

abbrev pub strings_of : Sizes → Arena
strings_of s = arena STRINGS (strings_at s) s.strings (string_bodies_at s) STRING_WORDS STRING_BYTES

abbrev pub tables_of : Sizes → Arena
tables_of s = arena TABLES (tables_at s) s.tables (table_bodies_at s) TABLE_WORDS 0

abbrev pub functions_of : Sizes → Arena
functions_of s = arena FUNCTIONS (functions_at s) s.functions (function_bodies_at s) FUNCTION_WORDS 0

abbrev pub upvalues_of : Sizes → Arena
upvalues_of s = arena UPVALUES (upvalues_at s) s.upvalues (upvalue_bodies_at s) UPVALUE_WORDS 0

abbrev pub userdata_of : Sizes → Arena
userdata_of s = arena USERDATA (userdata_at s) s.userdata (userdata_bodies_at s) USERDATA_WORDS 0

abbrev pub threads_of : Sizes → Arena
threads_of s = arena THREADS (threads_at s) s.threads (thread_bodies_at s) THREAD_WORDS 0

abbrev pub gray_of : Sizes → List
gray_of s = items GRAY (gray_at s) (gray_room s)

abbrev pub grayagain_of : Sizes → List
grayagain_of s = items GRAYAGAIN (grayagain_at s) (grayagain_room s)

abbrev pub weak_of : Sizes → List
weak_of s = items WEAK (weak_at s) (weak_room s)

abbrev pub queue_of : Sizes → List
queue_of s = items QUEUE (queue_at s) (queue_room s)

abbrev pub protos_of : Sizes → Part
protos_of s = part (boundary_of s) s.protos

abbrev pub stack_of : Sizes → Part
stack_of s = part (stack_at s) s.stack

abbrev pub opens_of : Sizes → Part
opens_of s = part (opens_at s) s.opens

abbrev pub frames_of : Sizes → Part
frames_of s = part (frames_at s) s.frames

unfoldable pub lay_of : Sizes → Lay
lay_of s = record {
  strings = strings_of s;
  tables = tables_of s;
  functions = functions_of s;
  upvalues = upvalues_of s;
  userdata = userdata_of s;
  threads = threads_of s;
  gray = gray_of s;
  grayagain = grayagain_of s;
  weak = weak_of s;
  queue = queue_of s;
  protos = protos_of s;
  stack = stack_of s;
  opens = opens_of s;
  frames = frames_of s;
  boundary = boundary_of s;
  words = words_of s;
  bytes = bytes_of s;
}

-- Sizes within their ranges, whose layout fits; a size outside its range is 4.
unfoldable pub planned : Sizes → Result Sizes Refusal
planned s = cond (sizes_fit s) (Ok s) (Err OutOfRange)

-- The words and bytes that a heap of these sizes needs.
abbrev pub room : Result Sizes Refusal → Result (ℕ × ℕ) Refusal
room (Ok s) = Ok ((lay_of s).words, (lay_of s).bytes)
room (Err n) = Err n

unfoldable pub needed_of : Sizes → Result (ℕ × ℕ) Refusal
needed_of s = room (planned s)
