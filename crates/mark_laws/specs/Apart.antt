-- The parts of a layout below the boundary stand one after the other. Assumes nothing.
--     Apart, apart          each part ends where the next begins, or before; the layout of any sizes has it
--     Order, order          the same with what a planned layout fixes beside: all that the laws of marking use of the places
--     arena_header, arena_next, arena_before, arena_lists     the six arenas by their kinds
use Rattle.std.specs.Prelude.{◌≡◌, ℕ, zero, suc, ◌+◌, ◌*◌, ◌≤◌, ◌<◌}
use Rattle.std.proofs.Common.{ap, arith}
use Rattle.std.proofs.Math.Decide.{dec_lt}
use Rattle.layout.specs.declared.Sizes.{Sizes}
use Rattle.layout.specs.declared.Lay.{Lay}
use Rattle.layout.specs.Layout.{lay_of}
use Rattle.laid.specs.Laid.{Laid}
use Rattle.mark.specs.Words.{arena_of}

-- What each arena has for a slot beside its body, four words, then the four lists of items of three words.
pub record Apart (l : Lay) : Type 0 where
  pub strings : l.strings.base + 4 * l.strings.slots ≤ l.tables.base
  pub tables : l.tables.base + 4 * l.tables.slots ≤ l.functions.base
  pub functions : l.functions.base + 4 * l.functions.slots ≤ l.upvalues.base
  pub upvalues : l.upvalues.base + 4 * l.upvalues.slots ≤ l.userdata.base
  pub userdata : l.userdata.base + 4 * l.userdata.slots ≤ l.threads.base
  pub threads : l.threads.base + 4 * l.threads.slots ≤ l.gray.base
  pub gray : l.gray.base + 3 * l.gray.room ≤ l.grayagain.base
  pub grayagain : l.grayagain.base + 3 * l.grayagain.room ≤ l.weak.base
  pub weak : l.weak.base + 3 * l.weak.room ≤ l.queue.base
  pub queue : l.queue.base + 3 * l.queue.room ≤ l.boundary

-- The layout of sizes has its parts apart.
pub apart : (s : Sizes) → Apart (lay_of s)
unfolding lay_of
apart s = record {
  strings = omega arith;
  tables = omega arith;
  functions = omega arith;
  upvalues = omega arith;
  userdata = omega arith;
  threads = omega arith;
  gray = omega arith;
  grayagain = omega arith;
  weak = omega arith;
  queue = omega arith;
}

-- The header ends at word 91, the counts of the lists are words 69 to 71, each arena's three words stand from 73 to 90, and
-- the boundary lies within the words; all bodies and the parts of the main record lie past it.
pub record Order (l : Lay) : Type 0 where
  pub parts : Apart l
  pub header : 91 ≤ l.strings.base
  pub gray : l.gray.count ≡ 69
  pub grayagain : l.grayagain.count ≡ 70
  pub weak : l.weak.count ≡ 71
  pub words : l.boundary ≤ l.words
  pub top_strings : l.strings.top ≡ 73
  pub top_tables : l.tables.top ≡ 76
  pub top_functions : l.functions.top ≡ 79
  pub top_upvalues : l.upvalues.top ≡ 82
  pub top_userdata : l.userdata.top ≡ 85
  pub top_threads : l.threads.top ≡ 88
  pub past_strings : l.boundary ≤ l.strings.bodies
  pub past_tables : l.boundary ≤ l.tables.bodies
  pub past_functions : l.boundary ≤ l.functions.bodies
  pub past_upvalues : l.boundary ≤ l.upvalues.bodies
  pub past_userdata : l.boundary ≤ l.userdata.bodies
  pub past_threads : l.boundary ≤ l.threads.bodies
  pub past_protos : l.boundary ≤ l.protos.base
  pub past_stack : l.boundary ≤ l.stack.base
  pub past_opens : l.boundary ≤ l.opens.base
  pub past_frames : l.boundary ≤ l.frames.base

-- A planned layout whose parts are apart has the order.
pub order : (l : Lay) → Laid l → Apart l → Order l
unfolding Laid
order l ok a = record {
  parts = a;
  header = ok.strings.header;
  gray = ok.gray.count;
  grayagain = ok.grayagain.count;
  weak = ok.weak.count;
  words = ok.boundary;
  top_strings = ok.strings.top;
  top_tables = ok.tables.top;
  top_functions = ok.functions.top;
  top_upvalues = ok.upvalues.top;
  top_userdata = ok.userdata.top;
  top_threads = ok.threads.top;
  past_strings = ok.strings.past;
  past_tables = ok.tables.past;
  past_functions = ok.functions.past;
  past_upvalues = ok.upvalues.past;
  past_userdata = ok.userdata.past;
  past_threads = ok.threads.past;
  past_protos = ok.protos.past;
  past_stack = ok.stack.past;
  past_opens = ok.opens.past;
  past_frames = ok.frames.past;
}

-- The arenas by their kinds, 0 to 5. No other kind has a slot.
module _ (l : Lay) (o : Order l) where
  abbrev base : ℕ → ℕ
  base k = (arena_of l k).base

  abbrev slots : ℕ → ℕ
  slots k = (arena_of l k).slots

  -- an arena ends before the next begins
  pub arena_next : (k : ℕ) → k < 5 → base k + 4 * slots k ≤ base (suc k)
  arena_next zero h = o.parts.strings
  arena_next (suc zero) h = o.parts.tables
  arena_next (suc (suc zero)) h = o.parts.functions
  arena_next (suc (suc (suc zero))) h = o.parts.upvalues
  arena_next (suc (suc (suc (suc zero)))) h = o.parts.userdata
  arena_next (suc (suc (suc (suc (suc k))))) h = absurd (let z : ⊥ = omega arith in z)

  -- a kind with a slot is one of the six
  pub arena_kind : (k i : ℕ) → i < slots k → k ≤ 5
  arena_kind zero i h = omega arith
  arena_kind (suc zero) i h = omega arith
  arena_kind (suc (suc zero)) i h = omega arith
  arena_kind (suc (suc (suc zero))) i h = omega arith
  arena_kind (suc (suc (suc (suc zero)))) i h = omega arith
  arena_kind (suc (suc (suc (suc (suc zero))))) i h = omega arith
  arena_kind (suc (suc (suc (suc (suc (suc k)))))) i h = absurd (let z : ⊥ = omega arith in z)

  -- an arena ends before each later one begins
  pub arena_before : (k d : ℕ) → k < d → d ≤ 5 → base k + 4 * slots k ≤ base d
  arena_before k zero h g = absurd (let z : ⊥ = omega arith in z)
  arena_before k (suc d) h g = go (dec_lt k d) (λ f. arena_before k d f (omega arith))
    where
      go : Dec (k < d) → (k < d → base k + 4 * slots k ≤ base d) → base k + 4 * slots k ≤ base (suc d)
      go (yes f) rest = omega (arith, rest f, arena_next d (omega arith))
      go (no f) rest =
          let e : k ≡ d = omega arith in
          omega (arith, arena_next d (omega arith), ap base e, ap slots e)

  -- all begin past the header
  pub arena_header : (k : ℕ) → k ≤ 5 → 91 ≤ base k
  arena_header zero h = o.header
  arena_header (suc k) h = omega (arith, o.header, arena_before zero (suc k) (omega arith) h)

  -- and end before the lists
  pub arena_lists : (k : ℕ) → k ≤ 5 → base k + 4 * slots k ≤ l.gray.base
  arena_lists k h = go (dec_lt k 5)
    where
      go : Dec (k < 5) → base k + 4 * slots k ≤ l.gray.base
      go (yes f) = omega (arith, arena_before k 5 f (omega arith), o.parts.threads)
      go (no f) =
          let e : k ≡ 5 = omega arith in
          omega (arith, o.parts.threads, ap base e, ap slots e)
