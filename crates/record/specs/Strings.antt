-- A string's record, 1 word: 0 its length, 0 to 64. Its bytes are a part of the byte buffer, 64 for each slot, starting at
-- slot times 64. Assumes nothing.
use Rattle.std.specs.Prelude.{Bool, true, false, cond, List, [], ◌∷◌, ℕ, ◌+◌, ◌*◌, eqb, length, take, drop}
use Rattle.base.specs.Loop.{run}
use Rattle.base.specs.Words.{at, put, bounded}

-- A length outside its range reads as 0.
abbrev pub string_length : ℕ → List ℕ → ℕ
string_length p w = bounded (at w p) 64

abbrev pub set_string_length : ℕ → ℕ → List ℕ → List ℕ
set_string_length p n w = put p n w

-- the n bytes of slot i's text
abbrev pub text_of : ℕ → ℕ → List ℕ → List ℕ
text_of i n b = take n (drop (64 * i) b)

-- the bytes s stand at slot i's place
abbrev pub text_one : ℕ → List ℕ → ℕ → List ℕ → List ℕ
text_one i s k b = put (64 * i + k) (at s k) b

unfoldable pub text_put : ℕ → List ℕ → List ℕ → List ℕ
text_put i s b = run (text_one i s) 0 (length s) b

-- The byte search: whether c is one of the bytes.
unfoldable pub has_byte : List ℕ → ℕ → Bool
has_byte [] c = false
has_byte (x ∷ xs) c = cond (eqb x c) true (has_byte xs c)

-- Comparison: the same bytes, and as many.
unfoldable pub same_bytes : List ℕ → List ℕ → Bool
same_bytes [] [] = true
same_bytes [] (y ∷ ys) = false
same_bytes (x ∷ xs) [] = false
same_bytes (x ∷ xs) (y ∷ ys) = cond (eqb x y) (same_bytes xs ys) false
