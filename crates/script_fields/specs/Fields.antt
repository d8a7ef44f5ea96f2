-- The fields of a line, parted by exactly one space: a command word, or a number of decimal digits up to 2^32 - 1. Assumes nothing.
use Rattle.std.specs.Prelude.{cond, List, [], ◌∷◌, ℕ, ◌+◌, ◌-◌, ◌*◌, ◌≤◌, length, take, drop}
use Rattle.base.specs.Ways.{if_lt, if_le, if_eq}
use Rattle.base.specs.Words.{at}
use Rattle.record.specs.Strings.{same_bytes}
use Rattle.script_fields.specs.declared.Word.{Word}
use Rattle.script_fields.specs.declared.Word.TheVariants.{Str, Tab, Ud, Push, Pop, Seti, Setn, Meta, Collect, Unknown}
use Rattle.script_fields.specs.declared.Field.{Field}
use Rattle.script_fields.specs.declared.Field.TheVariants.{Last, Part, Bad}

-- The bytes of the words.
abbrev pub STR : List ℕ
STR = 115 ∷ 116 ∷ 114 ∷ []

abbrev pub TAB : List ℕ
TAB = 116 ∷ 97 ∷ 98 ∷ []

abbrev pub UD : List ℕ
UD = 117 ∷ 100 ∷ []

abbrev pub PUSH : List ℕ
PUSH = 112 ∷ 117 ∷ 115 ∷ 104 ∷ []

abbrev pub POP : List ℕ
POP = 112 ∷ 111 ∷ 112 ∷ []

abbrev pub SETI : List ℕ
SETI = 115 ∷ 101 ∷ 116 ∷ 105 ∷ []

abbrev pub SETN : List ℕ
SETN = 115 ∷ 101 ∷ 116 ∷ 110 ∷ []

abbrev pub META : List ℕ
META = 109 ∷ 101 ∷ 116 ∷ 97 ∷ []

abbrev pub COLLECT : List ℕ
COLLECT = 99 ∷ 111 ∷ 108 ∷ 108 ∷ 101 ∷ 99 ∷ 116 ∷ []

-- The place of the first space (byte 32) of bytes that start at `i`, or the place past them.
unfoldable pub space_on : ℕ → List ℕ → ℕ
space_on i [] = i
space_on i (c ∷ cs) = if_eq c 32 i (space_on (i + 1) cs)

-- Where the field that starts at `i` ends.
abbrev pub field_end : List ℕ → ℕ → ℕ
field_end line i = space_on i (drop i line)

-- an end lies from its start on, and within the line if the start does
pub record Within (i e n : ℕ) : Type 0 where
  pub from : i ≤ e
  pub most : i ≤ n → e ≤ n

-- The word that a field's bytes are.
unfoldable pub other_word : List ℕ → Word
other_word s =
    cond (same_bytes s POP) Pop
    (cond (same_bytes s SETI) Seti
    (cond (same_bytes s SETN) Setn
    (cond (same_bytes s META) Meta
    (cond (same_bytes s COLLECT) Collect
    Unknown))))

unfoldable pub word_of : List ℕ → Word
word_of s =
    cond (same_bytes s STR) Str
    (cond (same_bytes s TAB) Tab
    (cond (same_bytes s UD) Ud
    (cond (same_bytes s PUSH) Push
    (other_word s))))

unfoldable pub word_at : List ℕ → ℕ → Word
word_at line i = word_of (take (field_end line i - i) (drop i line))

-- A number whose digits so far make `v` goes on with the bytes that start at `i`: a space or the end of the line ends it, a
-- byte that is no digit (48 to 57) or a value past 2^32 - 1 makes it none.
unfoldable pub digits_on : ℕ → ℕ → List ℕ → Field
digits_on v i [] = Last v
digits_on v i (c ∷ cs) =
    if_eq c 32 (Part v (i + 1))
    (if_lt c 48 Bad
    (if_lt 57 c Bad
    (if_lt 4294967295 (v * 10 + (c - 48)) Bad
    (digits_on (v * 10 + (c - 48)) (i + 1) cs))))

abbrev pub number_on : List ℕ → ℕ → ℕ → Field
number_on line v i = digits_on v i (drop i line)

-- The number in the field that starts at `i`: it has a digit at least.
unfoldable pub number_at : List ℕ → ℕ → Field
number_at line i = if_le (length line) i Bad (if_eq (at line i) 32 Bad (number_on line 0 i))
