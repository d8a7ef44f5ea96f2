-- A handle that may be missing, in two words: index + 1, 0 for none, and the generation. Assumes nothing.
use Rattle.std.specs.Prelude.{ℕ, ◌+◌, ◌-◌, ◌%◌, ◌^◌, List, Some, None, Option}
use Rattle.base.specs.Ways.{if_eq}
use Rattle.base.specs.Words.{at, put}
use Rattle.value.specs.declared.UdRef.{UdRef}
use Rattle.value.specs.declared.StrRef.{StrRef}
use Rattle.value.specs.declared.TableRef.{TableRef}

unfoldable pub handle_of : ℕ → ℕ → Option (ℕ × ℕ)
handle_of first g = if_eq first 0 None (Some (first - 1, g))

abbrev pub handle_at : List ℕ → ℕ → Option (ℕ × ℕ)
handle_at w p = handle_of (at w p) (at w (p + 1))

-- index + 1 is taken modulo 2^32: an index of 2^32 - 1, which no slot has, is stored as none with its generation.
abbrev pub first_of : Option (ℕ × ℕ) → ℕ
first_of None = 0
first_of (Some (i, g)) = (i + 1) % 2 ^ 32

abbrev pub second_of : Option (ℕ × ℕ) → ℕ
second_of None = 0
second_of (Some (i, g)) = g

unfoldable pub put_handle : ℕ → Option (ℕ × ℕ) → List ℕ → List ℕ
put_handle p h w = put (p + 1) (second_of h) (put p (first_of h) w)

-- a table's, a string's, and a userdata's
abbrev pub table_or : Option (ℕ × ℕ) → Option TableRef
table_or None = None
table_or (Some (i, g)) = Some (record { 0 = i; 1 = g })

abbrev pub table_in : Option TableRef → Option (ℕ × ℕ)
table_in None = None
table_in (Some r) = Some (r.0, r.1)

abbrev pub table_or_at : List ℕ → ℕ → Option TableRef
table_or_at w p = table_or (handle_at w p)

abbrev pub put_table_or : ℕ → Option TableRef → List ℕ → List ℕ
put_table_or p t w = put_handle p (table_in t) w

abbrev pub str_or : Option (ℕ × ℕ) → Option StrRef
str_or None = None
str_or (Some (i, g)) = Some (record { 0 = i; 1 = g })

abbrev pub str_in : Option StrRef → Option (ℕ × ℕ)
str_in None = None
str_in (Some r) = Some (r.0, r.1)

abbrev pub str_or_at : List ℕ → ℕ → Option StrRef
str_or_at w p = str_or (handle_at w p)

abbrev pub put_str_or : ℕ → Option StrRef → List ℕ → List ℕ
put_str_or p s w = put_handle p (str_in s) w

abbrev pub ud_or : Option (ℕ × ℕ) → Option UdRef
ud_or None = None
ud_or (Some (i, g)) = Some (record { 0 = i; 1 = g })

abbrev pub ud_in : Option UdRef → Option (ℕ × ℕ)
ud_in None = None
ud_in (Some r) = Some (r.0, r.1)

abbrev pub ud_or_at : List ℕ → ℕ → Option UdRef
ud_or_at w p = ud_or (handle_at w p)

abbrev pub put_ud_or : ℕ → Option UdRef → List ℕ → List ℕ
put_ud_or p d w = put_handle p (ud_in d) w
