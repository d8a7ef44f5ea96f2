-- What the numbers given to an exported call stand for. A value is given as its tag and two words, a handle as its index and
-- generation, a table's handle that may be missing as a presence, 0 or 1, and the handle. A tag above 8 and a presence above 1
-- stand for nothing: 1 and 8 as every call, then 4, before all that the call itself tests. Assumes nothing.
--     tagged_no, tagged_yes, optional_no, optional_yes     each way of the test by its fact
use Rattle.std.specs.Prelude.{◌≡◌, ℕ, ◌<◌, ◌≤◌, Some, None, Option}
use Rattle.base.specs.Ways.{if_eq, if_lt, lt_yes, lt_no}
use Rattle.base.specs.Heap.{Heap}
use Rattle.base.specs.declared.Refusal.{Refusal}
use Rattle.base.specs.declared.Refusal.TheVariants.{OutOfRange}
use Rattle.test1.specs.Calls.{ask}
use Rattle.value.specs.declared.TableRef.{TableRef}
use Rattle.value.specs.declared.UpvalRef.{UpvalRef}
use Rattle.value.specs.declared.UdRef.{UdRef}
use Rattle.value.specs.declared.ThreadRef.{ThreadRef}

abbrev pub no_number : Heap → Refusal
no_number = ask (λ n. n) (λ l h. OutOfRange)

-- a handle of each kind that a call is given
abbrev pub table_ref : ℕ → ℕ → TableRef
table_ref i g = record { 0 = i; 1 = g }

abbrev pub upval_ref : ℕ → ℕ → UpvalRef
upval_ref i g = record { 0 = i; 1 = g }

abbrev pub ud_ref : ℕ → ℕ → UdRef
ud_ref i g = record { 0 = i; 1 = g }

abbrev pub thread_ref : ℕ → ℕ → ThreadRef
thread_ref i g = record { 0 = i; 1 = g }

-- A table's handle that may be missing: 0 is none, and the other two are not looked at.
unfoldable pub table_of : ℕ → ℕ → ℕ → Option TableRef
table_of some i g = if_eq some 0 None (Some (table_ref i g))

-- A call that is given a value with this tag, and one that is given a table's handle with this presence.
module _ {A : Type 0} (refuse : Refusal → A) (n : ℕ) (call : Heap → A × Heap) where
  unfoldable pub tagged : Heap → A × Heap
  tagged h = if_lt 8 n (refuse (no_number h), h) (call h)

  unfoldable pub optional : Heap → A × Heap
  optional h = if_lt 1 n (refuse (no_number h), h) (call h)

  module _ (h : Heap) where
    pub tagged_no : (k : Refusal) → 8 < n → k ≡ no_number h → (refuse k, h) ≡ tagged h
    unfolding tagged
    tagged_no k f e = lt_yes _ _ _ _ _ f (rw e)

    pub tagged_yes : (r : A × Heap) → n ≤ 8 → r ≡ call h → r ≡ tagged h
    unfolding tagged
    tagged_yes r f e = lt_no _ _ _ _ _ f e

    pub optional_no : (k : Refusal) → 1 < n → k ≡ no_number h → (refuse k, h) ≡ optional h
    unfolding optional
    optional_no k f e = lt_yes _ _ _ _ _ f (rw e)

    pub optional_yes : (r : A × Heap) → n ≤ 1 → r ≡ call h → r ≡ optional h
    unfolding optional
    optional_yes r f e = lt_no _ _ _ _ _ f e
