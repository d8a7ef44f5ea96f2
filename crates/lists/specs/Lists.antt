-- Document 01, 'Sizes' and the damage rule: a working list is a count and items of three words: kind, index, generation.
-- A `List` says where they lie, so this holds of each of the four. Assumes nothing.
use Rattle.std.specs.Prelude.{List as Words, ℕ, min, ◌+◌, ◌*◌, ◌-◌, ◌≤◌, ◌<◌, length, Some, None, Option}
use Rattle.base.specs.Ways.{if_lt, if_le, if_eq}
use Rattle.base.specs.Words.{at, put, clear}
use Rattle.value.specs.Values.{put3}
use Rattle.layout.specs.declared.List.{List}
use Rattle.layout.specs.Places.{DAMAGE}
use Rattle.lists.specs.declared.Item.{Item}
use Rattle.lists.specs.declared.Item.TheVariants.{Table, Function, Userdata, Thread, Main, Unknown}

-- the place of the damage mark
abbrev pub damage : ℕ
damage = DAMAGE

-- The list lies within the words, and so does the damage mark.
pub record RoomFor (l : List) (w : Words ℕ) : Type 0 where
  pub room : l.room ≤ 20481
  pub count : l.count < l.base
  pub fits : l.base + 3 * l.room ≤ length w
  pub mark : damage < length w

-- The kind of an item is the tag of its value, and 9 for the main thread, which has no handle.
abbrev pub kind_of : Item → ℕ
kind_of (Table r) = 5
kind_of (Function r) = 6
kind_of (Userdata r) = 7
kind_of (Thread r) = 8
kind_of Main = 9
kind_of Unknown = 0

abbrev pub index_of : Item → ℕ
index_of (Table r) = r.0
index_of (Function r) = r.0
index_of (Userdata r) = r.0
index_of (Thread r) = r.0
index_of Main = 0
index_of Unknown = 0

abbrev pub generation_of : Item → ℕ
generation_of (Table r) = r.1
generation_of (Function r) = r.1
generation_of (Userdata r) = r.1
generation_of (Thread r) = r.1
generation_of Main = 0
generation_of Unknown = 0

-- An item of any other kind is unknown.
unfoldable pub item_of : ℕ → ℕ → ℕ → Item
item_of kind i g =
    if_eq kind 5 (Table (record { 0 = i; 1 = g }))
    (if_eq kind 6 (Function (record { 0 = i; 1 = g }))
    (if_eq kind 7 (Userdata (record { 0 = i; 1 = g }))
    (if_eq kind 8 (Thread (record { 0 = i; 1 = g }))
    (if_eq kind 9 Main
    Unknown))))

-- the item in words p to p + 2
abbrev pub item_in : Words ℕ → ℕ → Item
item_in w p = item_of (at w p) (at w (p + 1)) (at w (p + 2))

abbrev pub put_item : ℕ → Item → Words ℕ → Words ℕ
put_item p x w = put3 p (kind_of x) (index_of x) (generation_of x) w

-- How many items the list has: the stored count, read as at most the room.
abbrev pub length_of : List → Words ℕ → ℕ
length_of l w = min (at w l.count) l.room

abbrev pub set_length : List → ℕ → Words ℕ → Words ℕ
set_length l n w = put l.count n w

-- where item i lies
abbrev pub place : List → ℕ → ℕ
place l i = l.base + 3 * i

-- From the end on there is no item.
unfoldable pub item_at : List → ℕ → Words ℕ → Item
item_at l i w = if_le (length_of l w) i Unknown (item_in w (place l i))

-- A push stores the item at the end, and the count is one more. Onto a full list it is left out, and sets the damage mark.
unfoldable pub stored : List → ℕ → Item → Words ℕ → Words ℕ
stored l n x w = set_length l (n + 1) (put_item (place l n) x w)

unfoldable pub push : List → Item → Words ℕ → Words ℕ
push l x w = if_lt (length_of l w) l.room (stored l (length_of l w) x w) (put damage 1 w)

-- A pop takes the last item, and the count is one less. Its words become 0, so that equal heaps are equal words.
unfoldable pub taken : List → ℕ → Words ℕ → Words ℕ
taken l n w = set_length l n (put3 (place l n) 0 0 0 w)

unfoldable pub pop : List → Words ℕ → Option Item × Words ℕ
pop l w =
    if_eq (length_of l w) 0 (None, w)
    (Some (item_at l (length_of l w - 1) w), taken l (length_of l w - 1) w)

-- An emptied list has the count 0, and the words of its items are 0.
unfoldable pub cleared : List → Words ℕ → Words ℕ
cleared l w = set_length l 0 (clear l.base (3 * length_of l w) w)
