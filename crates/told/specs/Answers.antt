-- What an exported call answers: a code, 0 or the number of a refusal, and words lent for the rest, which a refusal leaves as
-- they were. Too few words are 1, and the call is not made. Assumes nothing.
--     served_told, lent_short, lent_told     each way by its fact
use Rattle.std.specs.Prelude.{◌≡◌, List, ℕ, ◌<◌, ◌≤◌, length, Ok, Err, Result}
use Rattle.std.proofs.Math.Path.{refl}
use Rattle.base.specs.Ways.{if_lt, lt_yes, lt_no}
use Rattle.base.specs.Words.{put}
use Rattle.base.specs.Heap.{Heap}
use Rattle.base.specs.declared.Refusal.{Refusal}
use Rattle.base.specs.Refusals.{number}
use Rattle.value.specs.declared.Value.{Value}
use Rattle.value.specs.Values.{put_value}
use Rattle.given.specs.Answers.{served_number}

-- A call that has nothing to tell.
unfoldable pub served : (Heap → Result Unit Refusal × Heap) → Heap → ℕ × Heap
served call h = (served_number (call h).0, (call h).1)

pub served_told : (call : Heap → Result Unit Refusal × Heap) (h : Heap) (a : Result Unit Refusal) (h' : Heap) (r : ℕ) → (a, h') ≡ call h → r ≡ served_number a → (r, h') ≡ served call h
unfolding served
served_told call h a h' r e q = rw (← e, q)

-- words 0 and 1 of an answer
unfoldable pub two : ℕ → ℕ → List ℕ → List ℕ
two x y out =
    let o₁ = put 0 x out in
    put 1 y o₁

-- A value stands in words 0 to 2.
unfoldable pub got_told : Result Value Refusal → List ℕ → ℕ × List ℕ
got_told (Ok v) out = (0, put_value 0 v out)
got_told (Err n) out = (number n, out)

-- A call whose answer takes n words, by `told`.
module _ {A : Type 0} (n : ℕ) (told : A → List ℕ → ℕ × List ℕ) (call : Heap → A × Heap) where
  abbrev pub told_with : A × Heap → List ℕ → (ℕ × Heap) × List ℕ
  told_with x out = (((told x.0 out).0, x.1), (told x.0 out).1)

  unfoldable pub lent : Heap → List ℕ → (ℕ × Heap) × List ℕ
  lent h out = if_lt (length out) n ((1, h), out) (told_with (call h) out)

  module _ (h : Heap) (out : List ℕ) where
    pub lent_short : length out < n → ((1, h), out) ≡ lent h out
    unfolding lent
    lent_short f = lt_yes _ _ _ _ _ f refl

    pub lent_told : (a : A) (h' : Heap) (r : ℕ) (out' : List ℕ) → n ≤ length out → (a, h') ≡ call h → (r, out') ≡ told a out → ((r, h'), out') ≡ lent h out
    unfolding lent
    lent_told a h' r out' f e q = lt_no _ _ _ _ _ f (rw (← e, ← q))
