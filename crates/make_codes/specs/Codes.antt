-- Lists of values given to the calls that make, and how what was made is told: 0 with two words, index and generation of the
-- handle, or the number of a prototype and 0; or the refusal. Assumes nothing.
--     listed_no, listed_yes     each way of the test by its fact
use Rattle.std.specs.Prelude.{◌≡◌, Bool, true, false, cond, List, ℕ, ◌*◌, ◌/◌, leb, length, Ok, Err, Result}
use Rattle.base.specs.Words.{at}
use Rattle.base.specs.Heap.{Heap}
use Rattle.base.specs.declared.Refusal.{Refusal}
use Rattle.base.specs.Refusals.{number}
use Rattle.making.specs.Turns.{each}
use Rattle.making.specs.declared.Made.{Made}
use Rattle.making.specs.declared.Made.TheVariants.{Str, Table, Function, Upvalue, Userdata, Thread, Proto}
use Rattle.told.specs.Numbers.{no_number}
use Rattle.told.specs.Answers.{two}

-- The k-th value of a list, three words each, has a tag: 0 to 8.
unfoldable pub is_tag : List ℕ → ℕ → Bool
is_tag s k = leb (at s (3 * k)) 8

unfoldable pub are_tags : List ℕ → Bool
are_tags s = each (is_tag s) (length s / 3)

-- A call that is given a list of values: a number that is no tag is 4, as for a single value.
module _ (s : List ℕ) (call : Heap → Result Made Refusal × Heap) where
  unfoldable pub listed : Heap → Result Made Refusal × Heap
  listed h = cond (are_tags s) (call h) (Err (no_number h), h)

  module _ (h : Heap) where
    pub listed_no : (k : Refusal) → are_tags s ≡ false → k ≡ no_number h → (Err k, h) ≡ listed h
    unfolding listed
    listed_no k f e = rw (f, e)

    pub listed_yes : (r : Result Made Refusal × Heap) → are_tags s ≡ true → r ≡ call h → r ≡ listed h
    unfolding listed
    listed_yes r f e = rw (f) e

unfoldable pub made_told : Result Made Refusal → List ℕ → ℕ × List ℕ
made_told (Ok (Str r)) out = (0, two r.0 r.1 out)
made_told (Ok (Table r)) out = (0, two r.0 r.1 out)
made_told (Ok (Function r)) out = (0, two r.0 r.1 out)
made_told (Ok (Upvalue r)) out = (0, two r.0 r.1 out)
made_told (Ok (Userdata r)) out = (0, two r.0 r.1 out)
made_told (Ok (Thread r)) out = (0, two r.0 r.1 out)
made_told (Ok (Proto n)) out = (0, two n 0 out)
made_told (Err n) out = (number n, out)
