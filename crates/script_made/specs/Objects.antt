-- The table of made objects, in words: word 0 is how many there are, then three words for each. Numbers of made objects count
-- from 1; 0 is nil. Assumes nothing.
use Rattle.std.specs.Prelude.{◌≡◌, Bool, false, List, ℕ, ◌+◌, ◌-◌, ◌*◌, ◌/◌, ◌<◌, min, leb, length, Some, None, Option}
use Rattle.std.proofs.Common.{leb-false}
use Rattle.base.specs.Ways.{if_lt, if_eq}
use Rattle.base.specs.Words.{at, put}
use Rattle.value.specs.declared.Value.{Value}
use Rattle.value.specs.declared.Value.TheVariants as value
use Rattle.value.specs.Values.{value_at, put_value}

-- Room for 4,096 objects, or for as many as the words hold.
abbrev pub room_of : List ℕ → ℕ
room_of made = min ((length made - 1) / 3) 4096

-- A count past the room reads as the room.
abbrev pub count_of : List ℕ → ℕ
count_of made = min (at made 0) (room_of made)

-- What a number names.
unfoldable pub object_of : List ℕ → ℕ → Option Value
object_of made k = if_eq k 0 (Some value.Nil) (if_lt (count_of made) k None (Some (value_at made (3 * k - 2))))

unfoldable pub is_full : List ℕ → Bool
is_full made = leb (room_of made) (count_of made)

-- One more object: its number, and the table with it.
unfoldable pub added : Value → List ℕ → ℕ × List ℕ
added v made = (count_of made + 1, put 0 (count_of made + 1) (put_value (3 * count_of made + 1) v made))

-- a table that is not full has room for one more
pub not_full : (made : List ℕ) → is_full made ≡ false → count_of made < room_of made
unfolding is_full
not_full made p = leb-false (room_of made) (count_of made) p
