-- What is written is read back, for each kind of field. (`value_back` and `handle_back` stand with values.) Assumes nothing.
use Rattle.std.specs.Prelude.{◌≡◌, refl, Bool, true, false, List, ℕ, ◌+◌, ◌/◌, ◌%◌, ◌≤◌, ◌<◌, eqb, ltb, length, Some, None, Option}
use Rattle.std.proofs.Common.{sym, ◌∙◌, arith, length-set, get_or-set_same, get_or-set_other}
use Rattle.std.proofs.Math.Nat.{mod-add-div'}
use Rattle.base.specs.Ways.{le_yes}
use Rattle.base.specs.Words.{at, put, bounded, get64, put64}
use Rattle.value.specs.declared.StrRef.{StrRef}
use Rattle.value.specs.declared.TableRef.{TableRef}
use Rattle.value.specs.declared.UpvalRef.{UpvalRef}
use Rattle.value.specs.Values.{word_of}
use Rattle.value.specs.Handles.{table_or, table_in, table_or_at, put_table_or, str_or, str_in, str_or_at, put_str_or}
use Rattle.value.specs.Laws.{Storable, handle_back}
use Rattle.record.specs.Fields.{upval_at, put_upval, put_flag}

pub word_back : (p x : ℕ) (w : List ℕ) → p < length w → at (put p x w) p ≡ x
word_back p x w h = get_or-set_same w p x 0 h

pub count_back : (p n most : ℕ) (w : List ℕ) → p < length w → n ≤ most → bounded (at (put p n w) p) most ≡ n
count_back p n most w h m = rw (word_back p n w h) (sym (le_yes n most n 0 n m refl))

-- two words
module _ (p a b : ℕ) (w : List ℕ) (h : p + 1 < length w) where
  pub first_back : at (put (p + 1) b (put p a w)) p ≡ a
  first_back = get_or-set_other (put p a w) (p + 1) p b 0 (λ e. omega arith) ∙ word_back p a w (omega arith)

  pub second_back : at (put (p + 1) b (put p a w)) (p + 1) ≡ b
  second_back = word_back (p + 1) b (put p a w) (omega (arith, length-set w p a))

pub long_back : (p x : ℕ) (w : List ℕ) → p + 1 < length w → get64 (put64 p x w) p ≡ x
long_back p x w h =
    rw (first_back p (x % 4294967296) (x / 4294967296) w h, second_back p (x % 4294967296) (x / 4294967296) w h)
    (mod-add-div' x 4294967296)

pub upval_back : (p : ℕ) (u : UpvalRef) (w : List ℕ) → p + 1 < length w → upval_at (put_upval p u w) p ≡ u
upval_back p u w h = rw (first_back p u.0 u.1 w h, second_back p u.0 u.1 w h)

-- a flag, for either way in which one is read
pub flag_one : (p : ℕ) (b : Bool) (w : List ℕ) → p < length w → eqb (at (put_flag p b w) p) 1 ≡ b
flag_one p b w h = rw (word_back p (word_of b) w h) (one b)
  where
    one : (b : Bool) → eqb (word_of b) 1 ≡ b
    one true = refl
    one false = refl

pub flag_set : (p : ℕ) (b : Bool) (w : List ℕ) → p < length w → ltb 0 (at (put_flag p b w) p) ≡ b
flag_set p b w h = rw (word_back p (word_of b) w h) (some b)
  where
    some : (b : Bool) → ltb 0 (word_of b) ≡ b
    some true = refl
    some false = refl

-- a handle that may be missing
pub table_back : (p : ℕ) (t : Option TableRef) (w : List ℕ) → p + 1 < length w → Storable (table_in t) → table_or_at (put_table_or p t w) p ≡ t
table_back p t w h s = rw (handle_back p (table_in t) w h s) (in_out t)
  where
    in_out : (t : Option TableRef) → table_or (table_in t) ≡ t
    in_out None = refl
    in_out (Some r) = refl

pub str_back : (p : ℕ) (s : Option StrRef) (w : List ℕ) → p + 1 < length w → Storable (str_in s) → str_or_at (put_str_or p s w) p ≡ s
str_back p s w h k = rw (handle_back p (str_in s) w h k) (in_out s)
  where
    in_out : (s : Option StrRef) → str_or (str_in s) ≡ s
    in_out None = refl
    in_out (Some r) = refl
