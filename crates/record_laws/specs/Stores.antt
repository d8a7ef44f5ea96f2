-- What a store leaves as it was. `Only p n w u` says that u is w but for the n words from p on. Assumes nothing.
--     only_put, only_two, only_value, only_handle, only_table, only_str, only_upval, only_64, only_flag     each kind of store
--     only_then, only_in                    one store after the other; a part of a wider part
--     word_stays, count_stays, value_stays, table_stays, str_stays, upval_stays, long_stays     what is read apart from it
--     below_stays, past_stays               the words below a boundary, and those past it
use Rattle.std.specs.Prelude.{◌≡◌, Bool, List, ◌⊎◌, ℕ, ◌+◌, ◌-◌, ◌≤◌, ◌<◌, min, length, take, drop, Option}
use Rattle.std.proofs.Common.{sym, ap, ◌∙◌, inl, inr, arith, length-set, length-take, length-drop, get_or-set_other, get_or-take, get_or-drop, ext_get_or}
use Rattle.base.specs.Words.{at, put, bounded, get64, put64}
use Rattle.value.specs.declared.StrRef.{StrRef}
use Rattle.value.specs.declared.TableRef.{TableRef}
use Rattle.value.specs.declared.Value.{Value}
use Rattle.value.specs.declared.UpvalRef.{UpvalRef}
use Rattle.value.specs.Values.{value_at, put_value, word_of}
use Rattle.value.specs.Handles.{first_of, second_of, handle_at, put_handle, table_in, table_or_at, put_table_or, str_in, str_or_at, put_str_or}
use Rattle.value.specs.Laws.{Outside, away, outer, value_three, value_kept, value_long}
use Rattle.record.specs.Fields.{upval_at, put_upval, put_flag}

pub record Only (p n : ℕ) (w u : List ℕ) : Type 0 where
  pub long : length u ≡ length w
  pub kept : (q : ℕ) → Outside p n q → at u q ≡ at w q

pub only_then : {p n : ℕ} {w u v : List ℕ} → Only p n w u → Only p n u v → Only p n w v
only_then f g = record { long = g.long ∙ f.long; kept = λ q o. g.kept q o ∙ f.kept q o }

pub only_in : {p n : ℕ} {w u : List ℕ} (p' n' : ℕ) → Only p n w u → p' ≤ p → p + n ≤ p' + n' → Only p' n' w u
only_in {p} {n} p' n' f h k = record { long = f.long; kept = λ q o. f.kept q (outer p' n' q o p n h k) }

-- each kind of store
pub only_put : (p x : ℕ) (w : List ℕ) → Only p 1 w (put p x w)
only_put p x w = record {
  long = length-set w p x;
  kept = λ q o. get_or-set_other w p q x 0 (away p 1 q o p (omega arith) (omega arith));
}

pub only_two : (p a b : ℕ) (w : List ℕ) → Only p 2 w (put (p + 1) b (put p a w))
only_two p a b w =
    only_then
    (only_in p 2 (only_put p a w) (omega arith) (omega arith))
    (only_in p 2 (only_put (p + 1) b (put p a w)) (omega arith) (omega arith))

pub only_value : (p : ℕ) (v : Value) (w : List ℕ) → Only p 3 w (put_value p v w)
only_value p v w = record { long = value_long p v w; kept = value_kept p v w }

pub only_handle : (p : ℕ) (h : Option (ℕ × ℕ)) (w : List ℕ) → Only p 2 w (put_handle p h w)
unfolding put_handle
only_handle p h w = only_two p (first_of h) (second_of h) w

pub only_table : (p : ℕ) (t : Option TableRef) (w : List ℕ) → Only p 2 w (put_table_or p t w)
only_table p t w = only_handle p (table_in t) w

pub only_str : (p : ℕ) (s : Option StrRef) (w : List ℕ) → Only p 2 w (put_str_or p s w)
only_str p s w = only_handle p (str_in s) w

pub only_upval : (p : ℕ) (u : UpvalRef) (w : List ℕ) → Only p 2 w (put_upval p u w)
only_upval p u w = only_two p u.0 u.1 w

pub only_64 : (p x : ℕ) (w : List ℕ) → Only p 2 w (put64 p x w)
only_64 p x w = only_two p _ _ w

pub only_flag : (p : ℕ) (b : Bool) (w : List ℕ) → Only p 1 w (put_flag p b w)
only_flag p b w = only_put p (word_of b) w

-- The n words from p on and the m words from q on are apart.
abbrev pub Apart : ℕ → ℕ → ℕ → ℕ → Type 0
Apart p n q m = (q + m ≤ p) ⊎ (p + n ≤ q)

pub apart_out : (p n q m : ℕ) → Apart p n q m → (k : ℕ) → q ≤ k → k < q + m → Outside p n k
apart_out p n q m (inl h) k f g = inl (omega arith)
apart_out p n q m (inr h) k f g = inr (omega arith)

pub apart_in : (p n q m : ℕ) → Apart p n q m → (q' m' : ℕ) → q ≤ q' → q' + m' ≤ q + m → Apart p n q' m'
apart_in p n q m (inl h) q' m' f g = inl (omega arith)
apart_in p n q m (inr h) q' m' f g = inr (omega arith)

module _ {p n : ℕ} {w u : List ℕ} (only : Only p n w u) where
  -- what is read apart from the store is as it was
  pub word_stays : (q : ℕ) → Apart p n q 1 → at u q ≡ at w q
  word_stays q o = only.kept q (apart_out p n q 1 o q (omega arith) (omega arith))

  pub count_stays : (q most : ℕ) → Apart p n q 1 → bounded (at u q) most ≡ bounded (at w q) most
  count_stays q most o = rw (word_stays q o)

  pub value_stays : (q : ℕ) → Apart p n q 3 → value_at u q ≡ value_at w q
  value_stays q o =
      value_three q u w
      (only.kept q (apart_out p n q 3 o q (omega arith) (omega arith)))
      (only.kept (q + 1) (apart_out p n q 3 o (q + 1) (omega arith) (omega arith)))
      (only.kept (q + 2) (apart_out p n q 3 o (q + 2) (omega arith) (omega arith)))

  pub handle_stays : (q : ℕ) → Apart p n q 2 → handle_at u q ≡ handle_at w q
  handle_stays q o = rw (only.kept q (apart_out p n q 2 o q (omega arith) (omega arith)), only.kept (q + 1) (apart_out p n q 2 o (q + 1) (omega arith) (omega arith)))

  pub table_stays : (q : ℕ) → Apart p n q 2 → table_or_at u q ≡ table_or_at w q
  table_stays q o = rw (handle_stays q o)

  pub str_stays : (q : ℕ) → Apart p n q 2 → str_or_at u q ≡ str_or_at w q
  str_stays q o = rw (handle_stays q o)

  pub upval_stays : (q : ℕ) → Apart p n q 2 → upval_at u q ≡ upval_at w q
  upval_stays q o = rw (only.kept q (apart_out p n q 2 o q (omega arith) (omega arith)), only.kept (q + 1) (apart_out p n q 2 o (q + 1) (omega arith) (omega arith)))

  pub long_stays : (q : ℕ) → Apart p n q 2 → get64 u q ≡ get64 w q
  long_stays q o = rw (only.kept q (apart_out p n q 2 o q (omega arith) (omega arith)), only.kept (q + 1) (apart_out p n q 2 o (q + 1) (omega arith) (omega arith)))

  -- a store at or past a boundary d leaves all words below it; a store below it leaves all from there on
  pub below_stays : (d : ℕ) → d ≤ p → take d u ≡ take d w
  below_stays d h =
      ext_get_or 0 (take d u) (take d w)
      (length-take d u ∙ ap (min d) only.long ∙ sym (length-take d w))
      (λ i j. get_or-take d u i 0 (omega (arith, length-take d u)) ∙ only.kept i (inl (omega (arith, length-take d u))) ∙ sym (get_or-take d w i 0 (omega (arith, length-take d u))))

  pub past_stays : (d : ℕ) → p + n ≤ d → drop d u ≡ drop d w
  past_stays d h =
      ext_get_or 0 (drop d u) (drop d w)
      (length-drop d u ∙ ap (λ (k : ℕ). k - d) only.long ∙ sym (length-drop d w))
      (λ i j. get_or-drop d u i 0 ∙ only.kept (d + i) (inr (omega arith)) ∙ sym (get_or-drop d w i 0))
