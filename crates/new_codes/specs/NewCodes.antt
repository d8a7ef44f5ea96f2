-- What a new heap needs, and making it, in numbers: a code (0, or a refusal number), and words lent for the rest. Assumes nothing.
use Rattle.std.specs.Prelude.{◌≡◌, List, ℕ, ◌^◌, ◌<◌, length, Ok, Err, Result}
use Rattle.std.proofs.Common.{arith}
use Rattle.base.specs.Ways.{if_lt, if_eq}
use Rattle.base.specs.Words.{at}
use Rattle.base.specs.Heap.{Heap}
use Rattle.base.specs.declared.Refusal.{Refusal}
use Rattle.base.specs.Refusals.{number}
use Rattle.layout.specs.Sizes.{SizesOk, sizes_fit_ok}
use Rattle.layout.specs.Layout.{lay_of, planned, needed_of}
use Rattle.layout.specs.Fits.{planned_fits}
use Rattle.layout.specs.declared.Sizes.{Sizes}
use Rattle.told.specs.Answers.{two}
use Rattle.newheap.specs.New.{make_heap}

-- Ten words are the sizes, in the order of `Sizes`.
unfoldable pub sizes_of : List ℕ → Sizes
sizes_of s = record {
  strings = at s 0;
  tables = at s 1;
  functions = at s 2;
  upvalues = at s 3;
  userdata = at s 4;
  threads = at s 5;
  protos = at s 6;
  stack = at s 7;
  opens = at s 8;
  frames = at s 9;
}

-- What a heap needs: words and bytes. Sizes are tested first (4), then that the answer has room (1).
abbrev pub needed_told : List ℕ → Result (ℕ × ℕ) Refusal → ℕ × List ℕ
needed_told out (Ok (n, m)) = if_lt (length out) 2 (1, out) (0, two n m out)
needed_told out (Err r) = (number r, out)

unfoldable pub needed_in : Sizes → List ℕ → ℕ × List ℕ
needed_in s out = needed_told out (needed_of s)

-- Any other count of words than ten is no choice of sizes: 4.
unfoldable pub needed_on : List ℕ → List ℕ → ℕ × List ℕ
needed_on s out = if_eq (length s) 10 (needed_in (sizes_of s) out) (4, out)

-- Making a heap answers a code and nothing else.
abbrev pub code_of : Result Unit Refusal → ℕ
code_of (Ok tt) = 0
code_of (Err r) = number r

abbrev pub made_told : Result Unit Refusal × Heap → ℕ × Heap
made_told p = (code_of p.0, p.1)

unfoldable pub make_heap_on : List ℕ → Heap → ℕ × Heap
make_heap_on s h = if_eq (length s) 10 (made_told (make_heap (sizes_of s) h)) (4, h)

-- what a heap needs fits a word: the largest has 3,964,673 words
small : (s : Sizes) → SizesOk s → ((lay_of s).words < 2 ^ 32) × ((lay_of s).bytes < 2 ^ 32)
unfolding lay_of
small s h = (omega arith, omega arith)

pub planned_small : (s z : Sizes) → Ok z ≡ planned s → ((lay_of z).words < 2 ^ 32) × ((lay_of z).bytes < 2 ^ 32)
planned_small s z p = rw (planned_fits s z p).1 (small s (sizes_fit_ok s (planned_fits s z p).0))
