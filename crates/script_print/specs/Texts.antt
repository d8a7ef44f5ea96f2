-- What a script prints (document 01, `heapscript`), as bytes. Assumes nothing.
use Rattle.std.specs.Prelude.{List, [], ◌∷◌, ◌++◌, ℕ, zero, suc, ◌+◌, ◌/◌, ◌%◌, Ok, Err, Result}
use Rattle.base.specs.Ways.{if_lt}
use Rattle.base.specs.declared.Refusal.{Refusal}
use Rattle.base.specs.Refusals.{number}
use Rattle.value.specs.declared.UdRef.{UdRef}
use Rattle.script_print.specs.declared.Counts.{Counts}
use Rattle.script_print.specs.declared.Outcome.{Outcome}
use Rattle.script_print.specs.declared.Outcome.TheVariants.{Quiet, Str, Table, Userdata, Freed}

-- A number in decimal digits, put in front of `after`; at most k digits.
unfoldable pub digits_on : ℕ → ℕ → List ℕ → List ℕ
digits_on zero n after = after
digits_on (suc k) n after = if_lt n 10 ((48 + n % 10) ∷ after) (digits_on k (n / 10) ((48 + n % 10) ∷ after))

-- A number of 64 bits has at most 20 digits.
abbrev pub decimal : ℕ → List ℕ
decimal n = digits_on 20 n []

-- The end of a line.
abbrev pub end : List ℕ
end = 10 ∷ []

-- A space and a number.
unfoldable pub field : ℕ → List ℕ
field n = (32 ∷ []) ++ decimal n

-- A slot and a generation end a line.
unfoldable pub handle_text : ℕ → ℕ → List ℕ
handle_text slot generation = field slot ++ (field generation ++ end)

-- `final SLOT GENERATION`.
unfoldable pub final_line : UdRef → List ℕ
final_line r = (102 ∷ 105 ∷ 110 ∷ 97 ∷ 108 ∷ []) ++ handle_text r.0 r.1

-- `NUMBER KIND SLOT GENERATION`, the kind with the space before it: ` str`, ` tab`, ` ud`.
abbrev pub STR : List ℕ
STR = 32 ∷ 115 ∷ 116 ∷ 114 ∷ []

abbrev pub TAB : List ℕ
TAB = 32 ∷ 116 ∷ 97 ∷ 98 ∷ []

abbrev pub UD : List ℕ
UD = 32 ∷ 117 ∷ 100 ∷ []

unfoldable pub object_line : ℕ → List ℕ → ℕ → ℕ → List ℕ
object_line number kind slot generation = decimal number ++ (kind ++ handle_text slot generation)

-- `freed` and six counts in sweep order.
unfoldable pub three_fields : ℕ → ℕ → ℕ → List ℕ
three_fields a b c = field a ++ (field b ++ field c)

unfoldable pub freed_line : Counts → List ℕ
freed_line c =
    (102 ∷ 114 ∷ 101 ∷ 101 ∷ 100 ∷ [])
    ++ (three_fields c.strings c.tables c.functions
    ++ (three_fields c.upvalues c.userdata c.threads ++ end))

-- `line N refused R`.
unfoldable pub refused_line : ℕ → ℕ → List ℕ
refused_line line n =
    (108 ∷ 105 ∷ 110 ∷ 101 ∷ [])
    ++ (field line ++ ((32 ∷ 114 ∷ 101 ∷ 102 ∷ 117 ∷ 115 ∷ 101 ∷ 100 ∷ []) ++ (field n ++ end)))

-- What the outcome of line number `line` prints.
unfoldable pub outcome_text : ℕ → Result Outcome Refusal → List ℕ
outcome_text line (Ok Quiet) = []
outcome_text line (Ok (Str k r)) = object_line k STR r.0 r.1
outcome_text line (Ok (Table k r)) = object_line k TAB r.0 r.1
outcome_text line (Ok (Userdata k r)) = object_line k UD r.0 r.1
outcome_text line (Ok (Freed c)) = freed_line c
outcome_text line (Err n) = refused_line line (number n)

-- Finalizers handed out, in order.
unfoldable pub final_lines : List UdRef → List ℕ
final_lines [] = []
final_lines (r ∷ rs) = final_line r ++ final_lines rs
