-- The command of a line (document 01, `heapscript`): a word and, parted by exactly one space each, its numbers; or `str`, one
-- space and TEXT, the rest of the line, which may be empty. Assumes nothing.
use Rattle.std.specs.Prelude.{List, ℕ, ◌+◌, ◌≤◌, length}
use Rattle.base.specs.Ways.{if_lt, if_le, if_eq}
use Rattle.script_fields.specs.declared.Word.{Word}
use Rattle.script_fields.specs.declared.Word.TheVariants as word
use Rattle.script_fields.specs.declared.Field.{Field}
use Rattle.script_fields.specs.declared.Field.TheVariants as field
use Rattle.script_line.specs.declared.Numbers.{Numbers}
use Rattle.script_line.specs.declared.Command.{Command}
use Rattle.script_line.specs.declared.Command.TheVariants.{Str, Tab, Ud, Push, Pop, Seti, Setn, Meta, Collect, Bad}
use Rattle.script_fields.specs.Fields.{field_end, word_at, number_at}

abbrev pub counted : ℕ → ℕ → ℕ → ℕ → ℕ → Numbers
counted n a b c d = record { count = n; a = a; b = b; c = c; d = d }

-- A field that is no number, or a fifth number.
abbrev pub wrong : Numbers
wrong = counted 5 0 0 0 0

-- The numbers in the fields, one after the other, those before given.
unfoldable pub fourth : ℕ → ℕ → ℕ → Field → Numbers
fourth a b c (field.Last d) = counted 4 a b c d
fourth a b c (field.Part d i) = wrong
fourth a b c field.Bad = wrong

unfoldable pub third : List ℕ → ℕ → ℕ → Field → Numbers
third line a b (field.Last c) = counted 3 a b c 0
third line a b (field.Part c i) = fourth a b c (number_at line i)
third line a b field.Bad = wrong

unfoldable pub second : List ℕ → ℕ → Field → Numbers
second line a (field.Last b) = counted 2 a b 0 0
second line a (field.Part b i) = third line a b (number_at line i)
second line a field.Bad = wrong

unfoldable pub first : List ℕ → Field → Numbers
first line (field.Last a) = counted 1 a 0 0 0
first line (field.Part a i) = second line a (number_at line i)
first line field.Bad = wrong

-- The numbers after the field that ends at `e`: none where the line ends there.
unfoldable pub numbers_from : List ℕ → ℕ → Numbers
numbers_from line e = if_le (length line) e (counted 0 0 0 0 0) (first line (number_at line (e + 1)))

-- TEXT after the field that ends at `e`: it starts past the space.
unfoldable pub text_from : List ℕ → ℕ → Command
text_from line e = if_le (length line) e Bad (Str (e + 1))

-- A command with as many numbers as it asks for; else none.
unfoldable pub exactly : ℕ → ℕ → Command → Command
exactly wanted count c = if_eq count wanted c Bad

-- `tab A N`, `ud`, `push K`, `pop`, `seti T I K`, `setn T J K V`, `meta K T`, `collect`.
unfoldable pub command_of : Word → Command → Numbers → Command
command_of word.Str text n = text
command_of word.Tab text n = exactly 2 n.count (Tab n.a n.b)
command_of word.Ud text n = exactly 0 n.count Ud
command_of word.Push text n = exactly 1 n.count (Push n.a)
command_of word.Pop text n = exactly 0 n.count Pop
command_of word.Seti text n = exactly 3 n.count (Seti n.a n.b n.c)
command_of word.Setn text n = exactly 4 n.count (Setn n.a n.b n.c n.d)
command_of word.Meta text n = exactly 2 n.count (Meta n.a n.b)
command_of word.Collect text n = exactly 0 n.count Collect
command_of word.Unknown text n = Bad

-- A line of more than 4,096 bytes is no command.
unfoldable pub parse : List ℕ → Command
parse line =
    if_lt 4096 (length line) Bad
    (let e = field_end line 0 in
    command_of (word_at line 0) (text_from line e) (numbers_from line e))

-- a text starts within n bytes
abbrev pub TextWithin : Command → ℕ → Type 0
TextWithin (Str i) n = i ≤ n
TextWithin (Tab a b) n = Unit {0}
TextWithin Ud n = Unit {0}
TextWithin (Push k) n = Unit {0}
TextWithin Pop n = Unit {0}
TextWithin (Seti t i k) n = Unit {0}
TextWithin (Setn t j k v) n = Unit {0}
TextWithin (Meta k t) n = Unit {0}
TextWithin Collect n = Unit {0}
TextWithin Bad n = Unit {0}
