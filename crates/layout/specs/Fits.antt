-- What a layout gives that fits n words and m bytes: all that a call may use of it. Assumes nothing.
use Rattle.std.specs.Prelude.{◌≡◌, refl, Bool, true, false, cond, List as Numbers, ℕ, ◌+◌, ◌*◌, ◌≤◌, length, Ok, Err, Result}
use Rattle.std.proofs.Common.{sym, ap, true≢false, arith}
use Rattle.base.specs.declared.Refusal.TheVariants.{OutOfRange}
use Rattle.base.specs.declared.Refusal.{Refusal}
use Rattle.arena.specs.declared.Arena.{Arena}
use Rattle.arena.specs.Slots.{Room, Wide}
use Rattle.layout.specs.Places.{GRAY, GRAYAGAIN, WEAK, QUEUE, STRINGS, TABLES, FUNCTIONS, UPVALUES, USERDATA, THREADS, HEADER, STRING_WORDS, TABLE_WORDS, FUNCTION_WORDS, UPVALUE_WORDS, USERDATA_WORDS, THREAD_WORDS, PROTO_WORDS, ITEM_WORDS, VALUE_WORDS, HANDLE_WORDS, STRING_BYTES}
use Rattle.layout.specs.Sizes.{SizesOk, sizes_fit}
use Rattle.layout.specs.Layout.{lay_of, planned}
use Rattle.layout.specs.declared.Sizes.{Sizes}
use Rattle.layout.specs.declared.List.{List}
use Rattle.layout.specs.declared.Part.{Part}
use Rattle.layout.specs.declared.Lay.{Lay}

-- An arena whose three words of the header are at t, with records of k words and texts of v bytes: what it has for each
-- slot beside the body lies between the header and the boundary d, its bodies between there and the end.
pub record ArenaOk (a : Arena) (t k v d n m : ℕ) : Type 0 where
  pub top : a.top ≡ t
  pub stride : a.stride ≡ k
  pub width : a.width ≡ v
  pub slots : a.slots ≤ 4096
  pub header : HEADER ≤ a.base
  pub apart : a.top + 3 ≤ a.base
  pub below : a.base + 4 * a.slots ≤ d
  pub past : d ≤ a.bodies
  pub fits : a.bodies + a.slots * k ≤ n
  pub bytes : a.slots * v ≤ m

-- A list whose count is at t lies between the header and the boundary d.
pub record ListOk (b : List) (t d : ℕ) : Type 0 where
  pub count : b.count ≡ t
  pub room : b.room ≤ 12289
  pub header : HEADER ≤ b.base
  pub below : b.base + ITEM_WORDS * b.room ≤ d

-- A part of at most x places of k words lies between the boundary d and the end.
pub record PartOk (p : Part) (k x d n : ℕ) : Type 0 where
  pub room : p.room ≤ x
  pub past : d ≤ p.base
  pub fits : p.base + k * p.room ≤ n

pub record Fits (l : Lay) (n m : ℕ) : Type 0 where
  pub header : HEADER ≤ n
  pub low : HEADER ≤ l.boundary
  pub boundary : l.boundary ≤ n
  pub words : l.words ≤ n
  pub bytes : l.bytes ≤ m
  pub strings : ArenaOk l.strings STRINGS STRING_WORDS STRING_BYTES l.boundary n m
  pub tables : ArenaOk l.tables TABLES TABLE_WORDS 0 l.boundary n m
  pub functions : ArenaOk l.functions FUNCTIONS FUNCTION_WORDS 0 l.boundary n m
  pub upvalues : ArenaOk l.upvalues UPVALUES UPVALUE_WORDS 0 l.boundary n m
  pub userdata : ArenaOk l.userdata USERDATA USERDATA_WORDS 0 l.boundary n m
  pub threads : ArenaOk l.threads THREADS THREAD_WORDS 0 l.boundary n m
  pub gray : ListOk l.gray GRAY l.boundary
  pub grayagain : ListOk l.grayagain GRAYAGAIN l.boundary
  pub weak : ListOk l.weak WEAK l.boundary
  pub queue : ListOk l.queue QUEUE l.boundary
  pub protos : PartOk l.protos PROTO_WORDS 256 l.boundary n
  pub stack : PartOk l.stack VALUE_WORDS 256 l.boundary n
  pub opens : PartOk l.opens HANDLE_WORDS 64 l.boundary n
  pub frames : PartOk l.frames 1 32 l.boundary n
  pub two_strings : 2 ≤ l.strings.slots
  pub two_tables : 2 ≤ l.tables.slots
  pub one_frame : 1 ≤ l.frames.room

-- an arena of the layout has room in any words of that length, and in any bytes
pub room : {a : Arena} {t k v d n m : ℕ} (w : Numbers ℕ) → ArenaOk a t k v d n m → n ≤ length w → Room a w
room w h p = record { slots = h.slots; apart = h.apart; below = omega arith; fits = rw h.stride (omega arith) }

pub wide : {a : Arena} {t k v d n m : ℕ} (b : Numbers ℕ) → ArenaOk a t k v d n m → m ≤ length b → Wide a b
wide b h p = rw h.width (omega arith)

-- sizes within their ranges give a layout that fits any words and bytes as long as it says
pub lay_ok : (s : Sizes) (n m : ℕ) → SizesOk s → (lay_of s).words ≤ n → (lay_of s).bytes ≤ m → Fits (lay_of s) n m
unfolding lay_of
lay_ok s n m h p q = record {
  header = omega arith;
  low = omega arith;
  boundary = omega arith;
  words = p;
  bytes = q;
  strings = record { top = refl; stride = refl; width = refl; slots = omega arith; header = omega arith; apart = omega arith; below = omega arith; past = omega arith; fits = omega arith; bytes = omega arith };
  tables = record { top = refl; stride = refl; width = refl; slots = omega arith; header = omega arith; apart = omega arith; below = omega arith; past = omega arith; fits = omega arith; bytes = omega arith };
  functions = record { top = refl; stride = refl; width = refl; slots = omega arith; header = omega arith; apart = omega arith; below = omega arith; past = omega arith; fits = omega arith; bytes = omega arith };
  upvalues = record { top = refl; stride = refl; width = refl; slots = omega arith; header = omega arith; apart = omega arith; below = omega arith; past = omega arith; fits = omega arith; bytes = omega arith };
  userdata = record { top = refl; stride = refl; width = refl; slots = omega arith; header = omega arith; apart = omega arith; below = omega arith; past = omega arith; fits = omega arith; bytes = omega arith };
  threads = record { top = refl; stride = refl; width = refl; slots = omega arith; header = omega arith; apart = omega arith; below = omega arith; past = omega arith; fits = omega arith; bytes = omega arith };
  gray = record { count = refl; room = omega arith; header = omega arith; below = omega arith };
  grayagain = record { count = refl; room = omega arith; header = omega arith; below = omega arith };
  weak = record { count = refl; room = omega arith; header = omega arith; below = omega arith };
  queue = record { count = refl; room = omega arith; header = omega arith; below = omega arith };
  protos = record { room = omega arith; past = omega arith; fits = omega arith };
  stack = record { room = omega arith; past = omega arith; fits = omega arith };
  opens = record { room = omega arith; past = omega arith; fits = omega arith };
  frames = record { room = omega arith; past = omega arith; fits = omega arith };
  two_strings = omega arith;
  two_tables = omega arith;
  one_frame = omega arith;
}

-- what an answer gives
abbrev pub Gives : Result Sizes Refusal → ℕ → ℕ → Type 0
Gives (Ok s) n m = Fits (lay_of s) n m
Gives (Err k) n m = Unit {0}

-- the sizes that a layout was made from, and that those of a layout that fits lie within their ranges
abbrev pub sizes_in : Lay → Sizes
sizes_in l = record {
  strings = l.strings.slots;
  tables = l.tables.slots;
  functions = l.functions.slots;
  upvalues = l.upvalues.slots;
  userdata = l.userdata.slots;
  threads = l.threads.slots;
  protos = l.protos.room;
  stack = l.stack.room;
  opens = l.opens.room;
  frames = l.frames.room;
}

pub sizes_in_lem : (l : Lay) (n m : ℕ) → Fits l n m → SizesOk (sizes_in l)
sizes_in_lem l n m h = record {
  strings2 = h.two_strings;
  strings = h.strings.slots;
  tables2 = h.two_tables;
  tables = h.tables.slots;
  functions = h.functions.slots;
  upvalues = h.upvalues.slots;
  userdata = h.userdata.slots;
  threads = h.threads.slots;
  protos = h.protos.room;
  stack = h.stack.room;
  opens = h.opens.room;
  frames1 = h.one_frame;
  frames = h.frames.room;
}

pub sizes_of_lem : (s : Sizes) → SizesOk (sizes_in (lay_of s)) → SizesOk s
unfolding lay_of
sizes_of_lem s h = h

-- sizes are planned exactly within their ranges, as they are
abbrev sizes_or : Sizes → Result Sizes Refusal → Sizes
sizes_or s (Ok z) = z
sizes_or s (Err n) = s

abbrev is_fits : Result Sizes Refusal → Bool
is_fits (Ok s) = true
is_fits (Err n) = false

pub planned_fits : (s z : Sizes) → Ok z ≡ planned s → (sizes_fit s ≡ true) × (z ≡ s)
unfolding planned
planned_fits s z p = cases (sizes_fit s) p
  where
    cases : (b : Bool) → Ok z ≡ cond b (Ok s) (Err OutOfRange) → (b ≡ true) × (z ≡ s)
    cases true p = (refl, ap (sizes_or s) p)
    cases false p = absurd (true≢false (ap is_fits p))

pub planned_refused : (s : Sizes) (n : Refusal) → Err n ≡ planned s → sizes_fit s ≡ false
unfolding planned
planned_refused s n p = cases (sizes_fit s) p
  where
    cases : (b : Bool) → Err n ≡ cond b (Ok s) (Err OutOfRange) → b ≡ false
    cases true p = absurd (true≢false (sym (ap is_fits p)))
    cases false p = refl
