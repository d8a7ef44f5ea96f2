-- What the handle of an object names: 1, 8, then 2 for one that names no occupied slot. All reads of objects begin so. Assumes
-- nothing.
use Rattle.std.specs.Prelude.{◌≡◌, List as Words, ℕ, ◌+◌, ◌*◌, ◌≤◌, ◌<◌, length, Some, None, Ok, Err, Option, Result}
use Rattle.std.proofs.Math.Path.{refl}
use Rattle.std.proofs.Common.{arith}
use Rattle.base.specs.Heap.{Heap, heap}
use Rattle.base.specs.declared.Refusal.TheVariants.{Stale}
use Rattle.base.specs.declared.Refusal.{Refusal}
use Rattle.layout.specs.declared.Sizes.{Sizes}
use Rattle.arena.specs.declared.Arena.{Arena}
use Rattle.arena.specs.Slots.{Room, named}
use Rattle.layout.specs.declared.Lay.{Lay}
use Rattle.layout.specs.Places.{STRING_WORDS, TABLE_WORDS, FUNCTION_WORDS, UPVALUE_WORDS, USERDATA_WORDS, THREAD_WORDS, STRING_BYTES}
use Rattle.layout.specs.Fits.{Fits, room}
use Rattle.test1.specs.Test1.{opened}
use Rattle.test1.specs.Calls.{ask, on_asked}
use Rattle.record.specs.Fields.{body_at}
use Rattle.reads.specs.declared.Read.{Read}
use Rattle.reads.specs.declared.Kind.{Kind}
use Rattle.reads.specs.declared.Kind.TheVariants as kind

-- The six arenas.
abbrev pub arena_of : Lay → Kind → Arena
arena_of l kind.Strings = l.strings
arena_of l kind.Tables = l.tables
arena_of l kind.Functions = l.functions
arena_of l kind.Upvalues = l.upvalues
arena_of l kind.Userdata = l.userdata
arena_of l kind.Threads = l.threads

pub arena_room : (l : Lay) (q : Kind) (w : Words ℕ) (m : ℕ) → Fits l (length w) m → Room (arena_of l q) w
arena_room l kind.Strings w m k = room w k.strings (omega arith)
arena_room l kind.Tables w m k = room w k.tables (omega arith)
arena_room l kind.Functions w m k = room w k.functions (omega arith)
arena_room l kind.Upvalues w m k = room w k.upvalues (omega arith)
arena_room l kind.Userdata w m k = room w k.userdata (omega arith)
arena_room l kind.Threads w m k = room w k.threads (omega arith)

-- What a handle, index i and generation g, names in an arena: the slot and the place of its body; 2 where it names none.
abbrev pub found_at : Arena → Option ℕ → Result (ℕ × ℕ) Refusal
found_at a (Some j) = Ok (j, body_at a j)
found_at a None = Err Stale

unfoldable pub found_in : Arena → ℕ → ℕ → Words ℕ → Result (ℕ × ℕ) Refusal
found_in a i g w = found_at a (named a i g w)

abbrev pub found : Kind → ℕ → ℕ → Heap → Result (ℕ × ℕ) Refusal
found k i g = ask Err (λ l h. found_in (arena_of l k) i g h.words)

-- What f reads of slot j, whose body stands at p, or the refusal.
abbrev pub on_found : (ℕ → ℕ → Result Read Refusal) → Result (ℕ × ℕ) Refusal → Result Read Refusal
on_found f (Ok (j, p)) = f j p
on_found f (Err n) = Err n

-- A read of an object: 1, 8, 2, then what f reads.
unfoldable pub read_object : Kind → (ℕ → ℕ → Heap → Result Read Refusal) → ℕ → ℕ → Heap → Result Read Refusal
read_object k f i g = ask Err (λ l h. on_found (λ j p. f j p h) (found_in (arena_of l k) i g h.words))

-- What is found lies within the arena; within the words, and the bytes, of its kind.
abbrev pub Lies : Arena → Result (ℕ × ℕ) Refusal → ℕ → Type 0
Lies a (Ok (j, p)) n = (j < a.slots) × (p + a.stride ≤ n)
Lies a (Err x) n = Unit {0}

abbrev pub words_of : Kind → ℕ
words_of kind.Strings = STRING_WORDS
words_of kind.Tables = TABLE_WORDS
words_of kind.Functions = FUNCTION_WORDS
words_of kind.Upvalues = UPVALUE_WORDS
words_of kind.Userdata = USERDATA_WORDS
words_of kind.Threads = THREAD_WORDS

abbrev pub bytes_of : Kind → ℕ
bytes_of kind.Strings = STRING_BYTES
bytes_of kind.Tables = 0
bytes_of kind.Functions = 0
bytes_of kind.Upvalues = 0
bytes_of kind.Userdata = 0
bytes_of kind.Threads = 0

abbrev pub Holds : Kind → Result (ℕ × ℕ) Refusal → ℕ → ℕ → Type 0
Holds k (Ok (j, p)) n m = (p + words_of k ≤ n) × (bytes_of k * j + bytes_of k ≤ m)
Holds k (Err x) n m = Unit {0}

pub holds : (l : Lay) (k : Kind) (n m : ℕ) → Fits l n m → (r : Result (ℕ × ℕ) Refusal) → Lies (arena_of l k) r n → Holds k r n m
holds l k n m o (Err x) h = h
holds l kind.Strings n m o (Ok (j, p)) h = (omega (arith, o.strings.stride), omega (arith, o.strings.bytes))
holds l kind.Tables n m o (Ok (j, p)) h = (omega (arith, o.tables.stride), omega arith)
holds l kind.Functions n m o (Ok (j, p)) h = (omega (arith, o.functions.stride), omega arith)
holds l kind.Upvalues n m o (Ok (j, p)) h = (omega (arith, o.upvalues.stride), omega arith)
holds l kind.Userdata n m o (Ok (j, p)) h = (omega (arith, o.userdata.stride), omega arith)
holds l kind.Threads n m o (Ok (j, p)) h = (omega (arith, o.threads.stride), omega arith)

module _ (k : Kind) (f : ℕ → ℕ → Heap → Result Read Refusal) (i g : ℕ) (w b : Words ℕ) where
  from_found : on_found (λ j p. f j p (heap w b)) (found k i g (heap w b)) ≡ read_object k f i g (heap w b)
  unfolding ask read_object
  from_found = go (opened w (length b))
    where
      go : (o : Result Sizes Refusal) → on_found (λ j p. f j p (heap w b)) (on_asked Err (λ l h. found_in (arena_of l k) i g h.words) (heap w b) o) ≡ on_asked Err (λ l h. on_found (λ j p. f j p h) (found_in (arena_of l k) i g h.words)) (heap w b) o
      go (Ok l) = refl
      go (Err n) = refl

  pub object_at : (j p : ℕ) (r : Result Read Refusal) {x : Result (ℕ × ℕ) Refusal} → x ≡ found k i g (heap w b) → x ≡ Ok (j, p) → r ≡ f j p (heap w b) → r ≡ read_object k f i g (heap w b)
  object_at j p r s t e = rw (← from_found, ← s, t) e

  pub object_refused : (n : Refusal) {x : Result (ℕ × ℕ) Refusal} → x ≡ found k i g (heap w b) → x ≡ Err n → Err n ≡ read_object k f i g (heap w b)
  object_refused n s t = rw (← from_found, ← s, t)
