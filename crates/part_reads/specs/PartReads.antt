-- Public reads of the main record, of the working lists and of the slots of each arena. They give 1, 8, then 4 for an index
-- outside its range, and change nothing. Assumes nothing.
use Rattle.std.specs.Prelude.{List as Words, ℕ, ◌+◌, ◌*◌, ◌≤◌, length, Ok, Err, Result}
use Rattle.std.proofs.Common.{arith}
use Rattle.base.specs.Ways.{if_lt, if_le}
use Rattle.base.specs.Words.{at}
use Rattle.base.specs.Heap.{Heap}
use Rattle.base.specs.declared.Refusal.TheVariants.{OutOfRange}
use Rattle.base.specs.declared.Refusal.{Refusal}
use Rattle.arena.specs.declared.Arena.{Arena}
use Rattle.arena.specs.Slots.{gen, colour, link, head, used, count}
use Rattle.value.specs.Values.{value_at}
use Rattle.layout.specs.declared.Lay.{Lay}
use Rattle.layout.specs.declared.List.{List}
use Rattle.layout.specs.declared.Part.{Part}
use Rattle.layout.specs.Places.{TOP, OPENS, CI, ERROR, HOOK}
use Rattle.layout.specs.Sizes.{SizesOk}
use Rattle.layout.specs.Fits.{Fits, sizes_in, sizes_in_lem}
use Rattle.lists.specs.Lists.{RoomFor, length_of, item_at}
use Rattle.test1.specs.Calls.{ask}
use Rattle.reads.specs.declared.Read.{Read}
use Rattle.reads.specs.declared.Read.TheVariants.{Number, Value, Upvalue, Item}
use Rattle.reads.specs.declared.Kind.{Kind}
use Rattle.reads.specs.Reads.{number_read}
use Rattle.reads.specs.Objects.{arena_of}
use Rattle.part_reads.specs.declared.Main.{Main}
use Rattle.part_reads.specs.declared.Main.TheVariants as main
use Rattle.part_reads.specs.declared.Which.{Which}
use Rattle.part_reads.specs.declared.Which.TheVariants as which
use Rattle.part_reads.specs.declared.Listed.{Listed}
use Rattle.part_reads.specs.declared.Listed.TheVariants as listed
use Rattle.part_reads.specs.declared.Slots.{Slots}
use Rattle.part_reads.specs.declared.Slots.TheVariants as slots

-- A value or upvalue that stands at a place.
abbrev pub value_read : ℕ → Words ℕ → Result Read Refusal
value_read p w = Ok (Value (value_at w p))

abbrev pub upval_read : ℕ → Words ℕ → Result Read Refusal
upval_read p w = Ok (Upvalue (record { 0 = at w p; 1 = at w (p + 1) }))

-- The main record: every place of its stack, the open upvalues below their count, the function index of each frame.
unfoldable pub stack_in : Part → ℕ → Words ℕ → Result Read Refusal
stack_in p i w = if_lt i p.room (value_read (p.base + 3 * i) w) (Err OutOfRange)

unfoldable pub open_in : Part → ℕ → Words ℕ → Result Read Refusal
open_in p i w = if_le (at w OPENS) i (Err OutOfRange) (if_lt i p.room (upval_read (p.base + 2 * i) w) (Err OutOfRange))

unfoldable pub frame_in : Part → ℕ → Words ℕ → Result Read Refusal
frame_in p i w = if_lt i p.room (number_read (p.base + i) w) (Err OutOfRange)

abbrev pub main_in : Lay → Main → Words ℕ → Result Read Refusal
main_in l main.Top w = number_read TOP w
main_in l main.Opens w = number_read OPENS w
main_in l main.Ci w = number_read CI w
main_in l main.Error w = value_read ERROR w
main_in l main.Hook w = value_read HOOK w
main_in l (main.Stack i) w = stack_in l.stack i w
main_in l (main.Open i) w = open_in l.opens i w
main_in l (main.Frame i) w = frame_in l.frames i w

abbrev pub read_main : Main → Heap → Result Read Refusal
read_main q = ask Err (λ l h. main_in l q h.words)

-- what the main record's reads need of the layout
pub record MainOk (l : Lay) (n : ℕ) : Type 0 where
  pub header : 91 ≤ n
  pub stack : l.stack.room ≤ 256
  pub stack_fits : l.stack.base + 3 * l.stack.room ≤ n
  pub opens : l.opens.room ≤ 64
  pub opens_fit : l.opens.base + 2 * l.opens.room ≤ n
  pub frames : l.frames.room ≤ 32
  pub frames_fit : l.frames.base + l.frames.room ≤ n
  pub sizes : SizesOk (sizes_in l)

pub main_ok : (l : Lay) (n m : ℕ) → Fits l n m → MainOk l n
main_ok l n m k = record {
  header = k.header;
  stack = k.stack.room;
  stack_fits = k.stack.fits;
  opens = k.opens.room;
  opens_fit = k.opens.fits;
  frames = k.frames.room;
  frames_fit = omega (arith, k.frames.fits);
  sizes = sizes_in_lem l n m k;
}

-- The four working lists: how many items, and the item at a place below that.
abbrev pub list_of : Lay → Which → List
list_of l which.Gray = l.gray
list_of l which.Grayagain = l.grayagain
list_of l which.Weak = l.weak
list_of l which.Queue = l.queue

pub list_room : (l : Lay) (q : Which) (w : Words ℕ) (m : ℕ) → Fits l (length w) m → RoomFor (list_of l q) w
list_room l which.Gray w m k = record { room = omega (arith, k.gray); count = omega (arith, k.gray); fits = omega (arith, k.gray, k.boundary); mark = omega (arith, k.header) }
list_room l which.Grayagain w m k = record { room = omega (arith, k.grayagain); count = omega (arith, k.grayagain); fits = omega (arith, k.grayagain, k.boundary); mark = omega (arith, k.header) }
list_room l which.Weak w m k = record { room = omega (arith, k.weak); count = omega (arith, k.weak); fits = omega (arith, k.weak, k.boundary); mark = omega (arith, k.header) }
list_room l which.Queue w m k = record { room = omega (arith, k.queue); count = omega (arith, k.queue); fits = omega (arith, k.queue, k.boundary); mark = omega (arith, k.header) }

abbrev pub list_in : List → Listed → Words ℕ → Result Read Refusal
list_in l listed.Length w = Ok (Number (length_of l w))
list_in l (listed.At i) w = if_le (length_of l w) i (Err OutOfRange) (Ok (Item (item_at l i w)))

abbrev pub read_list : Which → Listed → Heap → Result Read Refusal
read_list q i = ask Err (λ l h. list_in (list_of l q) i h.words)

-- The slots of an arena: generation, colour and link of one below the fresh index.
abbrev pub slot_at : Arena → ℕ → Slots → Words ℕ → Result Read Refusal
slot_at a i (slots.Generation k) w = Ok (Number (gen a i w))
slot_at a i (slots.Colour k) w = Ok (Number (colour a i w))
slot_at a i (slots.Link k) w = Ok (Number (link a i w))
slot_at a i slots.Head w = Err OutOfRange
slot_at a i slots.Fresh w = Err OutOfRange
slot_at a i slots.Count w = Err OutOfRange

unfoldable pub slot_in : Arena → ℕ → Slots → Words ℕ → Result Read Refusal
slot_in a i q w = if_le (used a w) i (Err OutOfRange) (slot_at a i q w)

abbrev pub arena_in : Arena → Slots → Words ℕ → Result Read Refusal
arena_in a slots.Head w = Ok (Number (head a w))
arena_in a slots.Fresh w = Ok (Number (used a w))
arena_in a slots.Count w = Ok (Number (count a w))
arena_in a (slots.Generation i) w = slot_in a i (slots.Generation i) w
arena_in a (slots.Colour i) w = slot_in a i (slots.Colour i) w
arena_in a (slots.Link i) w = slot_in a i (slots.Link i) w

abbrev pub read_arena : Kind → Slots → Heap → Result Read Refusal
read_arena k q = ask Err (λ l h. arena_in (arena_of l k) q h.words)
