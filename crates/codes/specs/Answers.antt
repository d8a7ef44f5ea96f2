-- An answer as a code, 0 or the number of a refusal, and four words: which kind it is, its own words, 0 for the rest.
-- Assumes nothing.
use Rattle.std.specs.Prelude.{List, Option, ℕ, ◌%◌, ◌/◌, length, Some, None, Ok, Err, Result}
use Rattle.base.specs.Ways.{if_lt}
use Rattle.base.specs.Words.{put}
use Rattle.base.specs.declared.Refusal.{Refusal}
use Rattle.base.specs.Refusals.{number}
use Rattle.value.specs.Values.{tag_of, low_of, high_of, put3}
use Rattle.value.specs.Handles.{table_in, str_in, ud_in}
use Rattle.lists.specs.Lists.{kind_of, index_of, generation_of}
use Rattle.reads.specs.declared.Read.{Read}
use Rattle.reads.specs.declared.Read.TheVariants.{Number, Value, Table, Str, Upvalue, Item, Userdata}

-- A handle that may be missing has 1 before it, or 0.
abbrev pub handle_words : ℕ → Option (ℕ × ℕ) → ℕ × ℕ × ℕ × ℕ
handle_words k None = (k, 0, 0, 0)
handle_words k (Some (i, g)) = (k, 1, i, g)

-- A number has its low word first; a value or an item stands as in the heap.
abbrev pub words_of : Result Read Refusal → Result (ℕ × ℕ × ℕ × ℕ) Refusal
words_of (Ok (Number n)) = Ok (0, n % 4294967296, n / 4294967296, 0)
words_of (Ok (Value v)) = Ok (1, tag_of v, low_of v, high_of v)
words_of (Ok (Table t)) = Ok (handle_words 2 (table_in t))
words_of (Ok (Str s)) = Ok (handle_words 3 (str_in s))
words_of (Ok (Upvalue r)) = Ok (4, r.0, r.1, 0)
words_of (Ok (Item x)) = Ok (5, kind_of x, index_of x, generation_of x)
words_of (Ok (Userdata d)) = Ok (handle_words 6 (ud_in d))
words_of (Err n) = Err n

-- A refusal leaves the lent words as they were.
abbrev pub told_in : List ℕ → Result (ℕ × ℕ × ℕ × ℕ) Refusal → ℕ × List ℕ
told_in out (Ok (k, x, y, z)) = (0, put3 1 x y z (put 0 k out))
told_in out (Err n) = (number n, out)

-- Fewer than four words are a buffer that is too short, whatever the heap answers: 1.
unfoldable pub told : Result Read Refusal → List ℕ → ℕ × List ℕ
told r out = if_lt (length out) 4 (1, out) (told_in out (words_of r))
