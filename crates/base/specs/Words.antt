-- A word or two in a buffer, and sums and counts that stop at their ends. Assumes nothing.
use Rattle.std.specs.Prelude.{List, ℕ, ◌+◌, ◌*◌, ◌/◌, ◌%◌, min, get_or, set}
use Rattle.base.specs.Ways.{if_le}
use Rattle.base.specs.Loop.{run}

-- the word, or the byte, at a place
abbrev pub at : List ℕ → ℕ → ℕ
at l p = get_or l p 0

-- x stands at place p
abbrev pub put : ℕ → ℕ → List ℕ → List ℕ
put p x l = set l p x

-- places p to p + n - 1 are 0
abbrev pub clear_one : ℕ → ℕ → List ℕ → List ℕ
clear_one p k l = set l (p + k) 0

unfoldable pub clear : ℕ → ℕ → List ℕ → List ℕ
clear p n l = run (clear_one p) 0 n l

-- a number of 64 bits in two words, the low one first
abbrev pub join : ℕ → ℕ → ℕ
join low high = low + high * 4294967296

abbrev pub get64 : List ℕ → ℕ → ℕ
get64 l p = join (at l p) (at l (p + 1))

abbrev pub put64 : ℕ → ℕ → List ℕ → List ℕ
put64 p x l = put (p + 1) (x / 4294967296) (put p (x % 4294967296) l)

-- a sum stops at the end of 64 bits (a difference, `-`, stops at 0)
abbrev pub add_sat : ℕ → ℕ → ℕ
add_sat x y = min (x + y) 18446744073709551615

-- a count that rises stops at the end of 32 bits
abbrev pub more : ℕ → ℕ
more x = min (x + 1) 4294967295

-- a stored size or count that lies past its range reads as 0
abbrev pub bounded : ℕ → ℕ → ℕ
bounded x most = if_le x most x 0
