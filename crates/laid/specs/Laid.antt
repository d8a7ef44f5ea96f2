-- A layout that was planned, and what it gives in words that are long enough. Assumes nothing.
use Rattle.std.specs.Prelude.{◌≡◌, List as Words, ℕ, ◌*◌, ◌≤◌, length}
use Rattle.std.proofs.Common.{arith}
use Rattle.arena.specs.Slots.{Room}
use Rattle.layout.specs.declared.List.{List}
use Rattle.layout.specs.declared.Lay.{Lay}
use Rattle.layout.specs.declared.Sizes.{Sizes}
use Rattle.layout.specs.Sizes.{SizesOk}
use Rattle.layout.specs.Layout.{lay_of}
use Rattle.layout.specs.Fits.{Fits, ListOk, room, lay_ok, sizes_in_lem, sizes_of_lem}
use Rattle.lists.specs.Lists.{RoomFor}
use Rattle.main_record.specs.Parts.{Parts, parts}

-- The layout fits the words and bytes that it says. It is shut, so that a proof sees one fact and not its fifty parts.
unfoldable pub Laid : Lay → Type 0
Laid l = Fits l l.words l.bytes

-- It is exactly that its sizes lie within their ranges.
pub laid_of : (s : Sizes) → SizesOk s → Laid (lay_of s)
unfolding Laid
laid_of s h = lay_ok s (lay_of s).words (lay_of s).bytes h (omega arith) (omega arith)

pub sizes_laid : (s : Sizes) → Laid (lay_of s) → SizesOk s
unfolding Laid
sizes_laid s ok = sizes_of_lem s (sizes_in_lem (lay_of s) (lay_of s).words (lay_of s).bytes ok)

list_room : {b : List} {t d : ℕ} (w : Words ℕ) → ListOk b t d → t ≤ 90 → d ≤ length w → 91 ≤ length w → RoomFor b w
list_room w h p q r = record { room = omega arith; count = omega arith; fits = omega arith; mark = omega arith }

parts_more : (l : Lay) (n m : ℕ) → n ≤ m → Parts l n → Parts l m
parts_more l n m h p = record { header = omega (arith, p.header); protos = omega (arith, p.protos); stack = omega (arith, p.stack); opens = omega (arith, p.opens); frames = omega (arith, p.frames); frame = p.frame; sizes = p.sizes }

module _ (l : Lay) (w : Words ℕ) (ok : Laid l) (long : l.words ≤ length w) where
  pub strings_room : Room l.strings w
  unfolding Laid
  strings_room = room w ok.strings long

  pub tables_room : Room l.tables w
  unfolding Laid
  tables_room = room w ok.tables long

  pub functions_room : Room l.functions w
  unfolding Laid
  functions_room = room w ok.functions long

  pub upvalues_room : Room l.upvalues w
  unfolding Laid
  upvalues_room = room w ok.upvalues long

  pub userdata_room : Room l.userdata w
  unfolding Laid
  userdata_room = room w ok.userdata long

  pub threads_room : Room l.threads w
  unfolding Laid
  threads_room = room w ok.threads long

  pub gray_room_lem : RoomFor l.gray w
  unfolding Laid
  gray_room_lem = list_room w ok.gray (omega arith) (omega (arith, ok.boundary)) (omega (arith, ok.header))

  pub grayagain_room_lem : RoomFor l.grayagain w
  unfolding Laid
  grayagain_room_lem = list_room w ok.grayagain (omega arith) (omega (arith, ok.boundary)) (omega (arith, ok.header))

  pub weak_room_lem : RoomFor l.weak w
  unfolding Laid
  weak_room_lem = list_room w ok.weak (omega arith) (omega (arith, ok.boundary)) (omega (arith, ok.header))

  pub queue_room_lem : RoomFor l.queue w
  unfolding Laid
  queue_room_lem = list_room w ok.queue (omega arith) (omega (arith, ok.boundary)) (omega (arith, ok.header))

  pub parts_room : Parts l (length w)
  unfolding Laid
  parts_room = parts_more l l.words (length w) long (parts l l.words l.bytes ok)

  pub header_room : 91 ≤ length w
  unfolding Laid
  header_room = omega (arith, ok.header)

-- the bytes of all texts, the words of each record, and the most prototypes
module _ (l : Lay) (ok : Laid l) where
  pub text_bytes : 64 * l.strings.slots ≤ l.bytes
  unfolding Laid
  text_bytes = omega (arith, ok.strings.bytes)

  pub table_words : l.tables.stride ≡ 580
  unfolding Laid
  table_words = ok.tables.stride

  pub function_words : l.functions.stride ≡ 53
  unfolding Laid
  function_words = ok.functions.stride

  pub upvalue_words : l.upvalues.stride ≡ 4
  unfolding Laid
  upvalue_words = ok.upvalues.stride

  pub userdata_words : l.userdata.stride ≡ 7
  unfolding Laid
  userdata_words = ok.userdata.stride

  pub thread_words : l.threads.stride ≡ 268
  unfolding Laid
  thread_words = ok.threads.stride

  pub string_words : l.strings.stride ≡ 1
  unfolding Laid
  string_words = ok.strings.stride

  pub protos_most : l.protos.room ≤ 256
  unfolding Laid
  protos_most = ok.protos.room
