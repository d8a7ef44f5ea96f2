-- How every public call begins and ends: test 1 and the damage mark, once for all of them. `refuse` gives the call's
-- answer to a refusal, `f` is its work with the layout. Assumes nothing.
use Rattle.std.specs.Prelude.{◌≡◌, refl, List, ℕ, length, Ok, Err, Result}
use Rattle.std.specs.Result.{IsErrAnd}
use Rattle.std.proofs.Common.{ap}
use Rattle.std.proofs.lemmas.Result.{err_from_is_err_and}
use Rattle.base.specs.Ways.{if_eq, eq_yes, eq_no}
use Rattle.base.specs.Words.{at}
use Rattle.base.specs.Heap.{Heap, heap}
use Rattle.base.specs.declared.Refusal.{Refusal}
use Rattle.base.specs.declared.Refusal.TheVariants.{Damaged}
use Rattle.layout.specs.Places.{DAMAGE}
use Rattle.layout.specs.Layout.{lay_of}
use Rattle.layout.specs.Plans.{sizes_given}
use Rattle.layout.specs.declared.plans.Plan.{Plan}
use Rattle.test1.specs.Test1.{opened}
use Rattle.layout.specs.declared.Sizes.{Sizes}
use Rattle.layout.specs.declared.Lay.{Lay}

-- work that changes the words only
abbrev pub in_words : {A : Type 0} → (Lay → List ℕ → A × List ℕ) → Lay → Heap → A × Heap
in_words f l h = ((f l h.words).0, heap (f l h.words).1 h.bytes)

-- A call that may change both buffers. 1 and 8 change nothing.
module _ {A : Type 0} (refuse : Refusal → A) (f : Lay → Heap → A × Heap) where
  abbrev pub on_opened : Heap → Result Sizes Refusal → A × Heap
  on_opened h (Ok s) = f (lay_of s) h
  on_opened h (Err n) = (refuse n, h)

  unfoldable pub call : Heap → A × Heap
  call h = on_opened h (opened h.words (length h.bytes))

  pub call_refused : (w b : List ℕ) (n : Refusal) {o : Result Sizes Refusal} → o ≡ opened w (length b) → o ≡ Err n → (refuse n, heap w b) ≡ call (heap w b)
  unfolding call
  call_refused w b n p q = rw (← p, q)

  pub call_fits : (w b : List ℕ) (s : Sizes) (r : A × Heap) {o : Result Sizes Refusal} → o ≡ opened w (length b) → o ≡ Ok s → r ≡ f (lay_of s) (heap w b) → r ≡ call (heap w b)
  unfolding call
  call_fits w b s r p q e = rw (← p, q, ← e)

-- The same, of work that changes the words only.
module _ {A : Type 0} (refuse : Refusal → A) (f : Lay → List ℕ → A × List ℕ) where
  pub call_words : (w b : List ℕ) (s : Sizes) (r : A) (v : List ℕ) {o : Result Sizes Refusal} → o ≡ opened w (length b) → o ≡ Ok s → (r, v) ≡ f (lay_of s) w → (r, heap v b) ≡ call refuse (in_words f) (heap w b)
  unfolding call
  call_words w b s r v p q e = rw (← p, q, ← e)

-- A call whose work can set the damage mark: then the answer is 8, and the buffers are as the work left them.
module _ {A : Type 0} (refuse : Refusal → A) (f : Lay → Heap → A × Heap) where
  abbrev pub unless_marked : A × Heap → A × Heap
  unless_marked p = (if_eq (at p.1.words DAMAGE) 0 p.0 (refuse Damaged), p.1)

  abbrev pub on_marked : Heap → Result Sizes Refusal → A × Heap
  on_marked h (Ok s) = unless_marked (f (lay_of s) h)
  on_marked h (Err n) = (refuse n, h)

  unfoldable pub call_marked : Heap → A × Heap
  call_marked h = on_marked h (opened h.words (length h.bytes))

  pub marked_refused : (w b : List ℕ) (n : Refusal) {o : Result Sizes Refusal} → o ≡ opened w (length b) → o ≡ Err n → (refuse n, heap w b) ≡ call_marked (heap w b)
  unfolding call_marked
  marked_refused w b n p q = rw (← p, q)

  pub marked_not : (w b : List ℕ) (s : Sizes) (r : A) (v c : List ℕ) {o : Result Sizes Refusal} → o ≡ opened w (length b) → o ≡ Ok s → (r, heap v c) ≡ f (lay_of s) (heap w b) → at v DAMAGE ≡ 0 → (r, heap v c) ≡ call_marked (heap w b)
  unfolding call_marked
  marked_not w b s r v c p q e m = rw (← p, q, ← e) (ap (λ (x : A). (x, heap v c)) (eq_yes (at v DAMAGE) 0 r (refuse Damaged) r m refl))

  pub marked_8 : (w b : List ℕ) (s : Sizes) (r : A) (v c : List ℕ) {o : Result Sizes Refusal} → o ≡ opened w (length b) → o ≡ Ok s → (r, heap v c) ≡ f (lay_of s) (heap w b) → (at v DAMAGE ≡ 0 → ⊥) → (refuse Damaged, heap v c) ≡ call_marked (heap w b)
  unfolding call_marked
  marked_8 w b s r v c p q e m = rw (← p, q, ← e) (ap (λ (x : A). (x, heap v c)) (eq_no (at v DAMAGE) 0 r (refuse Damaged) (refuse Damaged) m refl))

-- The same, of work that changes the words only.
module _ {A : Type 0} (refuse : Refusal → A) (f : Lay → List ℕ → A × List ℕ) where
  pub marked_words_not : (w b : List ℕ) (s : Sizes) (r : A) (v : List ℕ) {o : Result Sizes Refusal} → o ≡ opened w (length b) → o ≡ Ok s → (r, v) ≡ f (lay_of s) w → at v DAMAGE ≡ 0 → (r, heap v b) ≡ call_marked refuse (in_words f) (heap w b)
  marked_words_not w b s r v p q e m = marked_not refuse (in_words f) w b s r v b p q (rw (← e)) m

  pub marked_words_8 : (w b : List ℕ) (s : Sizes) (r : A) (v : List ℕ) {o : Result Sizes Refusal} → o ≡ opened w (length b) → o ≡ Ok s → (r, v) ≡ f (lay_of s) w → (at v DAMAGE ≡ 0 → ⊥) → (refuse Damaged, heap v b) ≡ call_marked refuse (in_words f) (heap w b)
  marked_words_8 w b s r v p q e m = marked_8 refuse (in_words f) w b s r v b p q (rw (← e)) m

-- A call that only reads: its contract gives the answer, and both buffers are lent unchangeable.
module _ {A : Type 0} (refuse : Refusal → A) (f : Lay → Heap → A) where
  abbrev pub on_asked : Heap → Result Sizes Refusal → A
  on_asked h (Ok s) = f (lay_of s) h
  on_asked h (Err n) = refuse n

  unfoldable pub ask : Heap → A
  ask h = on_asked h (opened h.words (length h.bytes))

  pub ask_refused : (w b : List ℕ) (n : Refusal) {o : Result Sizes Refusal} → o ≡ opened w (length b) → o ≡ Err n → refuse n ≡ ask (heap w b)
  unfolding ask
  ask_refused w b n p q = rw (← p, q)

  pub ask_fits : (w b : List ℕ) (s : Sizes) (r : A) {o : Result Sizes Refusal} → o ≡ opened w (length b) → o ≡ Ok s → r ≡ f (lay_of s) (heap w b) → r ≡ ask (heap w b)
  unfolding ask
  ask_fits w b s r p q e = rw (← p, q, ← e)

-- The exit of a `?` on test 1: its refusal is the call's answer, and nothing has changed.
module _ {T : Type 0} (f : Lay → Heap → Result T Refusal × Heap) (w b : List ℕ) {o : Result Plan Refusal} {n : Refusal} {r : Result T Refusal} where
  pub call_err : sizes_given o ≡ opened w (length b) → o ≡ Err n → IsErrAnd r (λ y. y ≡ n) → (r, heap w b) ≡ call Err f (heap w b)
  call_err p q e = let (_, a, c) = err_from_is_err_and r e in rw (a, c) (call_refused Err f w b n p (ap sizes_given q))

  pub marked_err : sizes_given o ≡ opened w (length b) → o ≡ Err n → IsErrAnd r (λ y. y ≡ n) → (r, heap w b) ≡ call_marked Err f (heap w b)
  marked_err p q e = let (_, a, c) = err_from_is_err_and r e in rw (a, c) (marked_refused Err f w b n p (ap sizes_given q))

-- The same, of a call that only reads.
module _ {T : Type 0} (f : Lay → Heap → Result T Refusal) (w b : List ℕ) {o : Result Plan Refusal} {n : Refusal} {r : Result T Refusal} where
  pub ask_err : sizes_given o ≡ opened w (length b) → o ≡ Err n → IsErrAnd r (λ y. y ≡ n) → r ≡ ask Err f (heap w b)
  ask_err p q e = let (_, a, c) = err_from_is_err_and r e in rw (a, c) (ask_refused Err f w b n p (ap sizes_given q))
