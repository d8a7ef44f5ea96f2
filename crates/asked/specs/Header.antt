-- The header and the slots asked by number: each table has the variants of its enum in their order; an index goes to those
-- that take one. Assumes nothing.
use Rattle.std.specs.Prelude.{[], ◌∷◌, ℕ, Some, None, Option, Result}
use Rattle.std.specs.Option.{option_zip}
use Rattle.base.specs.Heap.{Heap}
use Rattle.base.specs.declared.Refusal.{Refusal}
use Rattle.reads.specs.Reads.{read_counter, read_size, read_root}
use Rattle.part_reads.specs.PartReads.{read_main, read_list, read_arena}
use Rattle.reads.specs.declared.Read.{Read}
use Rattle.reads.specs.declared.Counter.{Counter}
use Rattle.reads.specs.declared.Counter.TheVariants as counter
use Rattle.reads.specs.declared.Size.{Size}
use Rattle.reads.specs.declared.Size.TheVariants as size
use Rattle.reads.specs.declared.Root.{Root}
use Rattle.reads.specs.declared.Root.TheVariants as root
use Rattle.part_reads.specs.declared.Main.{Main}
use Rattle.part_reads.specs.declared.Main.TheVariants as main
use Rattle.part_reads.specs.declared.Which.{Which}
use Rattle.part_reads.specs.declared.Which.TheVariants as which
use Rattle.part_reads.specs.declared.Listed.{Listed}
use Rattle.part_reads.specs.declared.Listed.TheVariants as listed
use Rattle.reads.specs.declared.Kind.{Kind}
use Rattle.reads.specs.declared.Kind.TheVariants as kind
use Rattle.part_reads.specs.declared.Slots.{Slots}
use Rattle.part_reads.specs.declared.Slots.TheVariants as slots
use Rattle.codes.specs.Numbers.{pick}
use Rattle.asked.specs.Asked.{asked}

-- 0 to 15.
unfoldable pub counter_of : ℕ → Option Counter
counter_of =
    pick None Some (counter.Prototypes ∷ counter.Limit ∷ counter.Pause ∷ counter.Stepmul
    ∷ counter.Creation ∷ counter.Phase ∷ counter.White ∷ counter.CursorArena ∷ counter.CursorSlot ∷ counter.Total ∷ counter.Peak
    ∷ counter.Estimate ∷ counter.Threshold ∷ counter.Debt ∷ counter.Interrupted ∷ counter.Remaining ∷ [])

unfoldable pub ask_counter : ℕ → Heap → Result Read Refusal
ask_counter n = asked read_counter (counter_of n)

-- 0 to 9.
unfoldable pub size_of : ℕ → Option Size
size_of =
    pick None Some (size.Strings ∷ size.Tables ∷ size.Functions ∷ size.Upvalues ∷ size.Userdata
    ∷ size.Threads ∷ size.Prototypes ∷ size.Stack ∷ size.Opens ∷ size.Frames ∷ [])

unfoldable pub ask_size : ℕ → Heap → Result Read Refusal
ask_size n = asked read_size (size_of n)

-- 0 to 4; 4 is a type's metatable.
unfoldable pub root_of : ℕ → ℕ → Option Root
root_of n k = pick None Some (root.Global ∷ root.Registry ∷ root.Mode ∷ root.Gc ∷ root.Type k ∷ []) n

unfoldable pub ask_root : ℕ → ℕ → Heap → Result Read Refusal
ask_root n k = asked read_root (root_of n k)

-- 0 to 7; 5 to 7 are a place of the stack, of the open list and of the frames.
unfoldable pub main_of : ℕ → ℕ → Option Main
main_of n i =
    pick None Some (main.Top ∷ main.Opens ∷ main.Ci ∷ main.Error ∷ main.Hook ∷ main.Stack i ∷ main.Open i
    ∷ main.Frame i ∷ []) n

unfoldable pub ask_main : ℕ → ℕ → Heap → Result Read Refusal
ask_main n i = asked read_main (main_of n i)

-- 0 to 3.
unfoldable pub which_of : ℕ → Option Which
which_of = pick None Some (which.Gray ∷ which.Grayagain ∷ which.Weak ∷ which.Queue ∷ [])

-- 0 is the length, 1 an item.
unfoldable pub listed_of : ℕ → ℕ → Option Listed
listed_of n i = pick None Some (listed.Length ∷ listed.At i ∷ []) n

unfoldable pub ask_list : ℕ → ℕ → ℕ → Heap → Result Read Refusal
ask_list l n i = asked (λ p. read_list p.0 p.1) (option_zip (which_of l) (listed_of n i))

-- 0 to 5.
unfoldable pub kind_of : ℕ → Option Kind
kind_of =
    pick None Some (kind.Strings ∷ kind.Tables ∷ kind.Functions ∷ kind.Upvalues ∷ kind.Userdata
    ∷ kind.Threads ∷ [])

-- 0 to 5; 3 to 5 are of a slot.
unfoldable pub slots_of : ℕ → ℕ → Option Slots
slots_of n i =
    pick None Some (slots.Head ∷ slots.Fresh ∷ slots.Count ∷ slots.Generation i ∷ slots.Colour i
    ∷ slots.Link i ∷ []) n

unfoldable pub ask_arena : ℕ → ℕ → ℕ → Heap → Result Read Refusal
ask_arena a n i = asked (λ p. read_arena p.0 p.1) (option_zip (kind_of a) (slots_of n i))
